-- A file that is opened: its value is the one that a load reads, and its text is the blanked one.
use Rattle.std.specs.Prelude.{◌≡◌, ℕ, List, Ok, Err, string_bytes}
use Rattle.serde_json.specs.View.{view}
use Rattle.kb_jsonc.specs.Reader.{value_of, without_mark}
use Rattle.kb_jsonc.specs.Text.{plain_text}
use Rattle.kb_places.specs.declared.fault_place.Misread.{Misread}
use Rattle.kb_places.specs.declared.source.Source.{Source}

pub record Opens (file : List ℕ) (source : Source) : Type 0 where
  pub bytes : source.bytes.now ≡ without_mark file
  pub value : value_of file ≡ Ok (view source.value)
  pub plain : plain_text (without_mark file) ≡ Ok (string_bytes source.plain)

-- a file isn't read, for this fault
abbrev pub Fails : List ℕ → Misread → Type 0
Fails file misread = value_of file ≡ Err misread.fault
