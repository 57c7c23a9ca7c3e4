-- Bundles of messages.
use Rattle.std.specs.Prelude.{ℕ, List, length, nat_lt, is_some, if◌then◌else◌, Result, Ok, Err}
use Rattle.serde_json.specs.Data.{Data}
use Rattle.serde_json.specs.Find.{as_object}
use Rattle.kb_base.specs.Reading.{◌>>=◌}
use Rattle.kb_jsonc.specs.Mismatch.{faulted}
use Rattle.kb_jsonc.specs.Reader.{value_of}
use Rattle.kb_localized.specs.declared.bundle_fault.BundleFault.{BundleFault}
use Rattle.kb_localized.specs.declared.bundle_fault.BundleFault.TheVariants.{TooLarge, Text, WrongShape}

-- the bundle that a value is: an object
abbrev pub bundle_in : Data → Result Data BundleFault
bundle_in d = if is_some (as_object d) then Ok d else Err WrongShape

-- the value of a file, or the fault of its text
abbrev pub value_in : List ℕ → Result Data BundleFault
value_in bytes = faulted Text (value_of bytes)

-- the bundle that a file holds, or its first fault
unfoldable pub bundle_of : List ℕ → Result Data BundleFault
bundle_of bytes = if nat_lt 16777216 (length bytes) then Err TooLarge else value_in bytes >>= bundle_in
