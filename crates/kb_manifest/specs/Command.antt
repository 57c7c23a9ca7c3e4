-- The commands that a manifest contributes.
use Rattle.std.specs.Prelude.{ℕ, List, [], Option, Some, None, Result, Ok, Err, codes}
use Rattle.serde_json.specs.Data.{Data, Members}
use Rattle.serde_json.specs.Find.{as_object, get_member}
use Rattle.kb_base.specs.Reading.{◌>>=◌, or_fault}
use Rattle.kb_jsonc.specs.declared.file_fault.FileFault.{FileFault}
use Rattle.kb_jsonc.specs.declared.file_fault.FileFault.TheVariants.{WrongShape}
use Rattle.kb_jsonc.specs.FileFault.{kind_of}
use Rattle.kb_manifest.specs.declared.judged.Judged.{Judged}
use Rattle.kb_manifest.specs.declared.notes.Notes.{Notes}
use Rattle.kb_base.specs.declared.note.Origin.{Origin}
use Rattle.kb_base.specs.declared.note.Part.TheVariants.{Commands}
use Rattle.kb_base.specs.declared.note.UnreadPattern.{UnreadPattern}
use Rattle.kb_manifest.specs.declared.command_table.Named.{Named}
use Rattle.kb_manifest.specs.declared.command.Texts.{Texts}
use Rattle.kb_jsonc.specs.Member.{required_text, optional_text}
use Rattle.kb_manifest.specs.Condition.{optional_condition, IsOptionalRight}
use Rattle.kb_manifest.specs.CommandTable.{firsts_behind}
use Rattle.kb_manifest.specs.Judged.{kept_from, notes_of}

-- the category and the enablement of an entry, each of which may be absent
abbrev pub extras_of : Option Data → Option Data → Result (Option (List ℕ) × Option (List ℕ)) FileFault
extras_of category enablement = do
  category ← optional_text category
  enablement ← optional_text enablement
  Ok (category, enablement)

-- the texts of the members of an entry; the faults come in this order
abbrev pub texts_in : Members → Result Texts FileFault
texts_in ms = do
  name ← required_text (get_member (codes "command") ms)
  title ← required_text (get_member (codes "title") ms)
  extras ← extras_of (get_member (codes "category") ms) (get_member (codes "enablement") ms)
  Ok (record { name = name; title = title; category = extras.0; enablement = extras.1 })

-- the texts of an entry, which is an object
unfoldable pub texts_of : Data → Result Texts FileFault
texts_of d = or_fault WrongShape (as_object d) >>= texts_in

-- the command of these texts, with the warning of its clause
abbrev pub command_of : List UnreadPattern → ℕ → Texts → Judged Named
command_of told place texts = record {
  kept = Some (record {
    name = texts.name;
    command = record {
      title = texts.title;
      category = texts.category;
      enablement = (optional_condition told texts.enablement).clause;
      place = place;
    };
  });
  fault = (optional_condition told texts.enablement).fault;
  unread = (optional_condition told texts.enablement).unread;
}

abbrev pub judged_by : List UnreadPattern → ℕ → Result Texts FileFault → Judged Named
judged_by told place (Ok texts) = command_of told place texts
judged_by told place (Err fault) = record { kept = None; fault = Some (kind_of fault); unread = [] }

-- the entry at a place, read
abbrev pub judged_at : List UnreadPattern → ℕ → Data → Judged Named
judged_at told place d = judged_by told place (texts_of d)

-- the first entries of their identifiers; a dropped entry counts for nothing
abbrev pub commands_of : (ℕ → List UnreadPattern) → List Data → List Named
commands_of told entries = firsts_behind [] (kept_from judged_at told 0 entries)

-- the commands of entries, and the notes of the entries
abbrev pub commands_by : Origin → (ℕ → List UnreadPattern) → List Data → List Named × Notes
commands_by origin told entries = (commands_of told entries, notes_of judged_at told origin Commands entries)

-- the unread patterns of an entry are right
abbrev pub IsRightBy : List UnreadPattern → Result Texts FileFault → Type 0
IsRightBy told (Ok texts) = IsOptionalRight told texts.enablement
IsRightBy told (Err fault) = Unit {0}

abbrev pub IsRightAt : List UnreadPattern → Data → Type 0
IsRightAt told d = IsRightBy told (texts_of d)
