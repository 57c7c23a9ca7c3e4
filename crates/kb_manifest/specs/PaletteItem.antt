-- The entries of a manifest that control where the palette shows a command.
use Rattle.std.specs.Prelude.{ℕ, List, [], Option, Some, None, Result, Ok, Err, if◌then◌else◌, codes}
use Rattle.std.specs.List.{list_all}
use Rattle.serde_json.specs.Data.{Data, Members}
use Rattle.serde_json.specs.Find.{as_object, get_member}
use Rattle.kb_base.specs.Blank.{is_blank}
use Rattle.kb_base.specs.Reading.{◌>>=◌, or_fault}
use Rattle.kb_jsonc.specs.declared.file_fault.FileFault.{FileFault}
use Rattle.kb_jsonc.specs.declared.file_fault.FileFault.TheVariants.{WrongShape}
use Rattle.kb_jsonc.specs.FileFault.{kind_of}
use Rattle.kb_manifest.specs.declared.judged.Judged.{Judged}
use Rattle.kb_manifest.specs.declared.notes.Notes.{Notes}
use Rattle.kb_base.specs.declared.note.Origin.{Origin}
use Rattle.kb_base.specs.declared.note.Part.TheVariants.{Palette}
use Rattle.kb_manifest.specs.Judged.{each_by}
use Rattle.kb_base.specs.declared.note.UnreadPattern.{UnreadPattern}
use Rattle.kb_manifest.specs.declared.palette_item.PaletteItem.{PaletteItem}
use Rattle.kb_manifest.specs.declared.palette_item.ItemTexts.{ItemTexts}
use Rattle.kb_jsonc.specs.Member.{required_text, optional_text}
use Rattle.kb_manifest.specs.Condition.{optional_condition, IsOptionalRight}

-- a text that isn't blank; an empty one, or white space alone, is absent
abbrev pub said : Option (List ℕ) → Option (List ℕ)
said None = None
said (Some text) = if list_all is_blank text then None else Some text

-- the texts of the members of an entry; the faults come in this order
abbrev pub texts_in : Members → Result ItemTexts FileFault
texts_in ms = do
  command ← required_text (get_member (codes "command") ms)
  when ← optional_text (get_member (codes "when") ms)
  Ok (record { command = command; when = said when })

-- the texts of an entry, which is an object
unfoldable pub texts_of : Data → Result ItemTexts FileFault
texts_of d = or_fault WrongShape (as_object d) >>= texts_in

-- the item of these texts, with the warning of its clause
abbrev pub item_of : List UnreadPattern → ℕ → ItemTexts → Judged PaletteItem
item_of told place texts = record {
  kept = Some (record {
    command = texts.command;
    when = (optional_condition told texts.when).clause;
    place = place;
  });
  fault = (optional_condition told texts.when).fault;
  unread = (optional_condition told texts.when).unread;
}

abbrev pub judged_by : List UnreadPattern → ℕ → Result ItemTexts FileFault → Judged PaletteItem
judged_by told place (Ok texts) = item_of told place texts
judged_by told place (Err fault) = record { kept = None; fault = Some (kind_of fault); unread = [] }

-- the entry at a place, read
abbrev pub judged_at : List UnreadPattern → ℕ → Data → Judged PaletteItem
judged_at told place d = judged_by told place (texts_of d)

-- the items of entries, and the notes of the entries
abbrev pub items_by : Origin → (ℕ → List UnreadPattern) → List Data → List PaletteItem × Notes
items_by origin told entries = each_by judged_at told origin Palette entries

-- the unread patterns of an entry are right
abbrev pub IsRightBy : List UnreadPattern → Result ItemTexts FileFault → Type 0
IsRightBy told (Ok texts) = IsOptionalRight told texts.when
IsRightBy told (Err fault) = Unit {0}

abbrev pub IsRightAt : List UnreadPattern → Data → Type 0
IsRightAt told d = IsRightBy told (texts_of d)
