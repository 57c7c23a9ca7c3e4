-- The scopes that the bytes of a layout file hold, or the refusal for the first fault of the file.
use Rattle.std.specs.Prelude.{ℕ, List, [], ◌∷◌, Option, Some, None, Result, Ok, Err, codes}
use Rattle.std.specs.FinMap.{empty}
use Rattle.kb_context.specs.declared.layout.Layout.{Layout}
use Rattle.kb_context.specs.declared.fault.ScopeFault.{ScopeFault}
use Rattle.kb_base.specs.declared.refusal.Refusal.{Refusal}
use Rattle.kb_context.specs.Layout.{layout_fault, scopes_of}
use Rattle.kb_base.specs.Reading.{◌>>=◌}
use Rattle.kb_base.specs.Refusal.{refusing}
use Rattle.kb_context.specs.ScopeFault.{kind_of}
use Rattle.kb_context.specs.Scopes.{RevisedScopes, initial}
use Rattle.kb_jsonc.specs.FileFault.{kind_of as shape_kind}
use Rattle.kb_layout.specs.Layout.{layout_of}
use Rattle.kb_files.specs.Value.{data_of}

-- the layout that is read
abbrev pub layout_in : List ℕ → Result Layout Refusal
layout_in bytes = data_of bytes >>= (λ d. refusing shape_kind (layout_of d))

-- the scopes are made where the layout has no fault
abbrev pub made : Option ScopeFault → RevisedScopes → Result RevisedScopes ScopeFault
made None scopes = Ok scopes
made (Some fault) scopes = Err fault

-- the new scopes of a layout, or the refusal for its fault
abbrev pub scopes_for : Layout → Result RevisedScopes Refusal
scopes_for l = refusing kind_of (made (layout_fault l) (initial (scopes_of l)))

abbrev pub scopes_in : List ℕ → Result RevisedScopes Refusal
scopes_in bytes = layout_in bytes >>= scopes_for

-- one scope without keys
abbrev pub window_layout : Layout
window_layout = record {
  scopes = record { name = codes "window"; parent = None; keys = empty } ∷ [];
  focus = codes "window";
}

abbrev pub window_scopes : RevisedScopes
window_scopes = initial (scopes_of window_layout)

-- the scopes of a layout file, or that one scope where there is none
abbrev pub layout_scopes : Option (List ℕ) → Result RevisedScopes Refusal
layout_scopes None = Ok window_scopes
layout_scopes (Some bytes) = scopes_in bytes
