-- Which mistakes are of bytes.
use Rattle.std.specs.Prelude.{Bool, true, false}
use Rattle.kb_assembly.specs.declared.fault.Mistake.{Mistake}
use Rattle.kb_assembly.specs.declared.fault.Mistake.TheVariants as m

abbrev pub is_of_bytes : Mistake → Bool
is_of_bytes m.BadByte = true
is_of_bytes m.MissingBlank = true
is_of_bytes m.BadEscape = true
is_of_bytes m.OpenQuotes = true
is_of_bytes m.NotUtf8 = true
is_of_bytes _ = false
