-- The members of a handler in a file, or the first fault.
use Rattle.std.specs.Prelude.{ℤ, List, [], codes, Option, Some, None, option_and_then, Result, Ok, Err}
use Rattle.serde_json.specs.Data.{Data, Members}
use Rattle.serde_json.specs.Find.{get_member, as_i64, as_number, as_object, as_str}
use Rattle.kb_base.specs.Reading.{◌>>=◌, or_fault}
use Rattle.kb_jsonc.specs.declared.file_fault.FileFault.{FileFault}
use Rattle.kb_jsonc.specs.declared.file_fault.FileFault.TheVariants.{MissingMember, WrongShape}
use Rattle.kb_jsonc.specs.Parts.{optional, texts_of, word_of}
use Rattle.kb_handler_file.specs.declared.entry.Declared.{Declared}
use Rattle.kb_handler_file.specs.declared.entry.Entry.{Entry}
use Rattle.kb_handler_file.specs.declared.entry.Written.{Written}
use Rattle.kb_handler_file.specs.Parameters.{params_of}

-- a required member: 40 if it is absent, 41 if it is invalid
abbrev pub required : {A : Type 0} → (Data → Option A) → Option Data → Result A FileFault
required read None = Err MissingMember
required read (Some d) = or_fault WrongShape (read d)

-- an optional list: 41 if it is invalid
abbrev pub or_empty : {A : Type 0} → (Data → Option (List A)) → Option Data → Result (List A) FileFault
or_empty read member = or_fault WrongShape (optional [] read member)

-- the integer that a value is
abbrev pub whole_of : Data → Option ℤ
whole_of d = option_and_then as_i64 (as_number d)

-- the members `command`, `params`, `budget` and `depth`, or the first fault in this order
abbrev pub declared_of : Members → Result Declared FileFault
declared_of ms = do
  command ← required word_of (get_member (codes "command") ms)
  params ← or_empty params_of (get_member (codes "params") ms)
  budget ← required whole_of (get_member (codes "budget") ms)
  depth ← required whole_of (get_member (codes "depth") ms)
  Ok (record { command = command; params = params; budget = budget; depth = depth })

-- the members `texts`, `calls` and `code`, or the first fault in this order
abbrev pub written_of : Option Data → Option Data → Option Data → Result Written FileFault
written_of texts calls code = do
  texts ← or_empty texts_of texts
  calls ← or_empty texts_of calls
  code ← required as_str code
  Ok (record { texts = texts; calls = calls; code = code })

-- all members of a handler, or the first fault
abbrev pub members_of : Members → Result Entry FileFault
members_of ms = do
  declared ← declared_of ms
  written ← written_of (get_member (codes "texts") ms) (get_member (codes "calls") ms)
      (get_member (codes "code") ms)
  Ok (record { declared = declared; written = written })

-- the members of an element, or its first fault
unfoldable pub entry_of : Data → Result Entry FileFault
entry_of d = or_fault WrongShape (as_object d) >>= members_of
