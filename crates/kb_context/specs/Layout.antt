-- The fault of a layout, and the scopes of a valid one.
use Rattle.std.specs.Prelude.{ℕ, ◌+◌, Bool, true, false, not, ◌&&◌, if◌then◌else◌, nat_lt, List, [], ◌∷◌}
use Rattle.std.specs.Prelude.{◌++◌, Option, Some, None, option_and_then, unwrap_or, map, length}
use Rattle.std.specs.List.{list_any}
use Rattle.std.specs.Str.{bytes_eq}
use Rattle.std.specs.FinMap.{len}
use Rattle.kb_context.specs.declared.layout.LayoutScope.{LayoutScope}
use Rattle.kb_context.specs.declared.layout.Layout.{Layout}
use Rattle.kb_context.specs.declared.scope_tree.Scope.{Scope}
use Rattle.kb_context.specs.declared.fault.ScopeFault.{ScopeFault}
use Rattle.kb_context.specs.declared.fault.ScopeFault.TheVariants.{BadLayout, TooManyKeys}
use Rattle.kb_context.specs.Scopes.{ScopesData, place_in, key_limit}

-- the maximum number of scopes in a layout
abbrev pub scope_limit : ℕ
scope_limit = 1000

-- whether a name is one of these
abbrev pub is_among : List (List ℕ) → List ℕ → Bool
is_among names name = list_any (bytes_eq name) names

abbrev pub layout_names : List LayoutScope → List (List ℕ)
layout_names = map (λ s. s.name)

-- the first scope has no parent, and each other scope has one that comes before it
abbrev pub parent_fits : List (List ℕ) → Option (List ℕ) → Bool
parent_fits before (Some parent) = is_among before parent
parent_fits [] None = true
parent_fits (name ∷ names) None = false

-- after scopes with the names `before`, each scope has a new name and a valid parent
abbrev pub fit : List (List ℕ) → List LayoutScope → Bool
fit before [] = true
fit before (s ∷ scopes) =
    (not (is_among before s.name) && parent_fits before s.parent) && fit (before ++ s.name ∷ []) scopes

-- at most `scope_limit` scopes, valid names and parents, and a focus that is the name of a scope
abbrev pub is_good : Layout → Bool
is_good l = not (nat_lt scope_limit (length l.scopes))
    && (fit [] l.scopes && is_among (layout_names l.scopes) l.focus)

-- the number of keys in all scopes of a layout
abbrev pub layout_key_count : List LayoutScope → ℕ
layout_key_count [] = 0
layout_key_count (s ∷ scopes) = len s.keys + layout_key_count scopes

-- `BadLayout` takes precedence over `TooManyKeys`
abbrev pub layout_fault : Layout → Option ScopeFault
layout_fault l =
    if is_good l then (if nat_lt key_limit (layout_key_count l.scopes) then Some TooManyKeys else None)
    else Some BadLayout

-- a scope, with the index of its parent among `names`
abbrev pub scope_of : List (List ℕ) → LayoutScope → Scope
scope_of names s = record
    { name = s.name; parent = option_and_then (λ parent. place_in parent names) s.parent; keys = s.keys }

-- the scopes of a valid layout, in its order
abbrev pub scopes_of : Layout → ScopesData
scopes_of l = record {
  scopes = map (scope_of (layout_names l.scopes)) l.scopes;
  focus = unwrap_or (place_in l.focus (layout_names l.scopes)) 0;
}
