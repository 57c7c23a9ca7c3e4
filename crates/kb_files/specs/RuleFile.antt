-- The rules that the bytes of a file hold, for the marks of the patterns that aren't read, or the refusal
-- for the first fault of the file, which doesn't hang on marks.
use Rattle.std.specs.Prelude.{ℕ, List, None, Result}
use Rattle.serde_json.specs.Data.{Data}
use Rattle.kb_base.specs.declared.refusal.Refusal.{Refusal}
use Rattle.kb_base.specs.Reading.{◌>>=◌, or_fault, seen}
use Rattle.kb_base.specs.Refusal.{refusing}
use Rattle.kb_jsonc.specs.declared.file_fault.FileFault.TheVariants.{WrongShape}
use Rattle.kb_jsonc.specs.FileFault.{kind_of}
use Rattle.kb_jsonc.specs.Parts.{elements_of}
use Rattle.kb_rules.specs.RuleList.{Listed, listed}
use Rattle.kb_base.specs.declared.note.Origin.{Origin}
use Rattle.kb_base.specs.declared.note.EntryPattern.{EntryPattern}
use Rattle.kb_files.specs.Value.{data_of}

-- the elements of a file, which has to be an array
abbrev pub elements_in : Data → Result (List Data) Refusal
elements_in d = refusing kind_of (or_fault WrongShape (elements_of d))

abbrev pub elements_held : List ℕ → Result (List Data) Refusal
elements_held bytes = data_of bytes >>= elements_in

-- what these elements give, for these marks; a rule of a file has one key for all platforms
abbrev pub rules_by : List EntryPattern → Origin → List Data → Listed
rules_by marks origin ds = listed marks origin None ds

unfoldable pub rules_in : List EntryPattern → Origin → List ℕ → Result Listed Refusal
rules_in marks origin bytes = seen (rules_by marks origin) (elements_held bytes)
