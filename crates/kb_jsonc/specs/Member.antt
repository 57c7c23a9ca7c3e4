-- The texts that the members of an entry are: 40 where one is absent that must be there, 41 where one is no
-- text.
use Rattle.std.specs.Prelude.{ℕ, List, Option, Some, None, Result, Ok}
use Rattle.serde_json.specs.Data.{Data}
use Rattle.serde_json.specs.Find.{as_str}
use Rattle.kb_base.specs.Reading.{◌>>=◌, or_fault, or_default}
use Rattle.kb_jsonc.specs.declared.file_fault.FileFault.{FileFault}
use Rattle.kb_jsonc.specs.declared.file_fault.FileFault.TheVariants.{MissingMember, WrongShape}

abbrev pub text_of : Data → Result (List ℕ) FileFault
text_of d = or_fault WrongShape (as_str d)

abbrev pub required_text : Option Data → Result (List ℕ) FileFault
required_text member = or_fault MissingMember member >>= text_of

abbrev pub optional_text : Option Data → Result (Option (List ℕ)) FileFault
optional_text member = or_default None (λ d. text_of d >>= λ text. Ok (Some text)) member
