-- The JSON value that the bytes of a file hold, or the refusal for the first fault of its text.
use Rattle.std.specs.Prelude.{ℕ, List, Result}
use Rattle.serde_json.specs.Data.{Data}
use Rattle.kb_base.specs.declared.refusal.Refusal.{Refusal}
use Rattle.kb_base.specs.Refusal.{refusing}
use Rattle.kb_jsonc.specs.Fault.{kind_of}
use Rattle.kb_jsonc.specs.Reader.{value_of}

abbrev pub data_of : List ℕ → Result Data Refusal
data_of bytes = refusing kind_of (value_of bytes)
