-- What is reported of the entries of a manifest.
use Rattle.std.specs.Prelude.{ℕ, List, [], ◌∷◌, ◌++◌, Option, Some, None}
use Rattle.kb_base.specs.declared.fault.FaultKind.{FaultKind}
use Rattle.kb_base.specs.declared.note.Origin.{Origin}
use Rattle.kb_base.specs.declared.note.Part.{Part}
use Rattle.kb_base.specs.declared.note.Warning.{Warning}
use Rattle.kb_when.specs.Placed.{placed}
use Rattle.kb_base.specs.declared.note.UnreadPattern.{UnreadPattern}
use Rattle.kb_manifest.specs.declared.notes.Notes.{Notes}

abbrev pub no_notes : Notes
no_notes = record { warnings = []; unread = [] }

-- the warning of an entry, as a list
abbrev pub warning_in : Origin → Part → ℕ → Option FaultKind → List Warning
warning_in origin part place None = []
warning_in origin part place (Some kind) =
    record { origin = origin; part = part; kind = kind; place = place } ∷ []

abbrev pub with_warning : Origin → Part → ℕ → Option FaultKind → Notes → Notes
with_warning origin part place fault notes =
    record notes { warnings = notes.warnings ++ warning_in origin part place fault }

abbrev pub with_unread : Origin → Part → ℕ → List UnreadPattern → Notes → Notes
with_unread origin part place patterns notes =
    record notes { unread = notes.unread ++ placed origin part place patterns }
