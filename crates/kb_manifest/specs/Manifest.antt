-- The manifest that a JSON value is (`package.json`), or its first fault.
use Rattle.std.specs.Prelude.{ℕ, List, [], ◌++◌, Option, Some, Result, Ok, Err, codes}
use Rattle.std.specs.Prelude.{◌≡◌}
use Rattle.std.specs.Prelude.{if◌then◌else◌}
use Rattle.serde_json.specs.Data.{Data, Members}
use Rattle.serde_json.specs.Find.{get_member, as_object}
use Rattle.serde_json.specs.View.{items_view}
use Rattle.kb_base.specs.Reading.{or_fault, seen}
use Rattle.kb_jsonc.specs.declared.file_fault.FileFault.{FileFault}
use Rattle.kb_jsonc.specs.declared.file_fault.FileFault.TheVariants.{MissingMember, WrongShape}
use Rattle.kb_manifest.specs.declared.manifest.Head.{Head}
use Rattle.kb_manifest.specs.declared.manifest.Manifest.{Manifest}
use Rattle.kb_manifest.specs.declared.manifest.Package.{Package}
use Rattle.kb_base.specs.declared.note.Origin.{Origin}
use Rattle.kb_base.specs.declared.note.Part.TheVariants.{Commands, Palette}
use Rattle.kb_base.specs.declared.note.EntryPattern.{EntryPattern}
use Rattle.kb_when.specs.Placed.{marks_at}
use Rattle.kb_base.specs.declared.note.UnreadPattern.{UnreadPattern}
use Rattle.kb_base.specs.declared.failure.Failure.{Failure}
use Rattle.kb_base.specs.Failure.{Fails}
use Rattle.kb_manifest.specs.Command as command
use Rattle.kb_manifest.specs.Judged.{AllRight}
use Rattle.kb_manifest.specs.PaletteItem as item
use Rattle.kb_jsonc.specs.Parts.{◌>>=◌, lacks, optional, listed, texts_of, word_of}
use Rattle.kb_manifest.specs.Points.{Held, contributions_of, seen_points}

-- what a package holds: the manifest, and the entries of its key rules as in the file
pub record Stated : Type 0 where
  pub manifest : Manifest
  pub keybindings : List Data

-- the unread patterns, by the places of the commands and of the items of the palette
pub record Told : Type 0 where
  pub commands : ℕ → List UnreadPattern
  pub palette : ℕ → List UnreadPattern

-- a manifest before its entries are read
pub record Outline : Type 0 where
  pub id : List ℕ
  pub dependencies : List (List ℕ)
  pub points : Held

abbrev pub publisher_of : Option Data → Option (List ℕ)
publisher_of publisher = optional (codes "undefined_publisher") word_of publisher

-- the identifier by a name and a publisher
unfoldable pub id_of : Option Data → Option Data → Option (List ℕ)
id_of name publisher = do
  extension ← name >>= word_of
  publisher ← publisher_of publisher
  Some ((publisher ++ codes ".") ++ extension)

-- the identifiers that an extension depends on, none where they are absent
unfoldable pub dependencies_of : Option Data → Option (List (List ℕ))
dependencies_of ids = optional [] texts_of ids

-- what members say, where each part has its shape
abbrev pub head_in : Members → Option Outline
head_in ms = do
  id ← id_of (get_member (codes "name") ms) (get_member (codes "publisher") ms)
  dependencies ← dependencies_of (get_member (codes "extensionDependencies") ms)
  points ← contributions_of (get_member (codes "contributes") ms)
  Some (record { id = id; dependencies = dependencies; points = points })

-- what an object says, where each part has its shape
unfoldable pub head_of : Data → Option Outline
head_of d = as_object d >>= head_in

-- a name that is absent is the first fault, and then any wrong shape of the file itself
unfoldable pub outline_of : Data → Result Outline FileFault
outline_of d =
    if lacks (codes "name") d then Err MissingMember else or_fault WrongShape (head_of d)

-- the package of an outline: each entry is read by itself
abbrev pub contributed : Origin → Told → Outline → Stated
contributed origin told o = record {
  manifest = record {
    id = o.id;
    dependencies = o.dependencies;
    commands = (command.commands_by origin told.commands o.points.commands).0;
    palette = (item.items_by origin told.palette o.points.palette).0;
    command_notes = (command.commands_by origin told.commands o.points.commands).1;
    palette_notes = (item.items_by origin told.palette o.points.palette).1;
  };
  keybindings = o.points.keybindings;
}

abbrev pub package_of : Origin → Told → Data → Result Stated FileFault
package_of origin told d = seen (contributed origin told) (outline_of d)

-- the same of what the code makes
abbrev pub seen_head : Head → Outline
seen_head h = record { id = h.id; dependencies = h.dependencies; points = seen_points h.points }

abbrev pub seen_package : Package → Stated
seen_package p = record { manifest = p.manifest; keybindings = listed (items_view p.keybindings.items) }

-- which patterns of a manifest of this origin a list has
abbrev pub told_in : Origin → List EntryPattern → Told
told_in origin unread = record {
  commands = marks_at origin Commands unread;
  palette = marks_at origin Palette unread;
}

-- which patterns the notes of a manifest have
abbrev pub told_by : Origin → Manifest → Told
told_by origin m = record {
  commands = marks_at origin Commands m.command_notes.unread;
  palette = marks_at origin Palette m.palette_notes.unread;
}

-- the answer is the package that is meant for the patterns of its own notes, or the fault for any patterns
abbrev pub IsRead : {F : Type 0} → Origin → (Told → Result Stated F) → Result Package (Failure F) → Type 0
IsRead origin meant (Ok p) = meant (told_by origin p.manifest) ≡ Ok (seen_package p)
IsRead origin meant (Err failure) = (told : Told) → Fails failure (meant told)

-- the unread patterns of all entries are right
abbrev pub IsRightIn : Told → Outline → Type 0
IsRightIn told o =
    AllRight command.IsRightAt told.commands 0 o.points.commands
    × AllRight item.IsRightAt told.palette 0 o.points.palette

-- the same of an outline that was read
abbrev pub IsRightBy : {F : Type 0} → Told → Result Outline F → Type 0
IsRightBy told (Ok o) = IsRightIn told o
IsRightBy told (Err fault) = Unit {0}
