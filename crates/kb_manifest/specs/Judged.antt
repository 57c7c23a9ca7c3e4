-- The entries of a part, read from the top down. Places are counted from a number. `told` gives the unread
-- patterns of the entry at a place.
use Rattle.std.specs.Prelude.{ℕ, ◌+◌, List, [], ◌∷◌, ◌++◌, Option, Some, None}
use Rattle.serde_json.specs.Data.{Data}
use Rattle.kb_base.specs.declared.note.Origin.{Origin}
use Rattle.kb_base.specs.declared.note.Part.{Part}
use Rattle.kb_base.specs.declared.note.EntryPattern.{EntryPattern}
use Rattle.kb_base.specs.declared.note.Warning.{Warning}
use Rattle.kb_when.specs.Placed.{placed}
use Rattle.kb_base.specs.declared.note.UnreadPattern.{UnreadPattern}
use Rattle.kb_manifest.specs.declared.judged.Judged.{Judged}
use Rattle.kb_manifest.specs.declared.notes.Notes.{Notes}
use Rattle.kb_manifest.specs.Notes.{warning_in}

-- what is kept of an entry, as a list
abbrev pub kept_in : {X : Type 0} → Option X → List X
kept_in None = []
kept_in (Some x) = x ∷ []

module _ {X : Type 0} (judged_at : List UnreadPattern → ℕ → Data → Judged X)
    (told : ℕ → List UnreadPattern) where
  abbrev pub kept_from : ℕ → List Data → List X
  kept_from place [] = []
  kept_from place (d ∷ ds) = kept_in (judged_at (told place) place d).kept ++ kept_from (place + 1) ds

  abbrev pub warnings_from : Origin → Part → ℕ → List Data → List Warning
  warnings_from origin part place [] = []
  warnings_from origin part place (d ∷ ds) =
      warning_in origin part place (judged_at (told place) place d).fault
      ++ warnings_from origin part (place + 1) ds

  abbrev pub unread_from : Origin → Part → ℕ → List Data → List EntryPattern
  unread_from origin part place [] = []
  unread_from origin part place (d ∷ ds) =
      placed origin part place (judged_at (told place) place d).unread
      ++ unread_from origin part (place + 1) ds

  abbrev pub notes_of : Origin → Part → List Data → Notes
  notes_of origin part ds =
      record { warnings = warnings_from origin part 0 ds; unread = unread_from origin part 0 ds }

  -- what is kept of the entries, and their notes
  abbrev pub each_by : Origin → Part → List Data → List X × Notes
  each_by origin part ds = (kept_from 0 ds, notes_of origin part ds)

-- the unread patterns of each entry are right
abbrev pub AllRight : (List UnreadPattern → Data → Type 0) → (ℕ → List UnreadPattern) → ℕ → List Data → Type 0
AllRight Right told place [] = Unit {0}
AllRight Right told place (d ∷ ds) = Right (told place) d × AllRight Right told (place + 1) ds
