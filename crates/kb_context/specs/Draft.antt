-- Building the scopes of a layout one by one.
use Rattle.std.specs.Prelude.{◌≡◌, ℕ, if◌then◌else◌, List, [], ◌∷◌, ◌++◌, Option, Some, None, option_map}
use Rattle.std.specs.Prelude.{option_and_then, is_some}
use Rattle.kb_context.specs.declared.layout.LayoutScope.{LayoutScope}
use Rattle.kb_context.specs.declared.scope_tree.Scope.{Scope}
use Rattle.kb_context.specs.declared.fault.ScopeFault.{ScopeFault}
use Rattle.kb_context.specs.declared.fault.ScopeFault.TheVariants.{BadLayout}
use Rattle.kb_base.specs.declared.failure.Failure.{Failure}
use Rattle.kb_base.specs.declared.failure.Failure.TheVariants.{NoMemory, Fault}
use Rattle.kb_context.specs.Scopes.{place_of}

-- The index of a parent, if it is valid: the first scope has no parent, and each other scope has one that
-- comes before it.
abbrev pub parent_in : Option (List ℕ) → List Scope → Option (Option ℕ)
parent_in (Some name) scopes = option_map (λ i. Some i) (place_of name scopes)
parent_in None [] = Some None
parent_in None (s ∷ scopes) = None

-- the same for a scope to add after these, if its name is new too
abbrev pub parent_behind : List Scope → LayoutScope → Option (Option ℕ)
parent_behind done s = if is_some (place_of s.name done) then None else parent_in s.parent done

-- a scope of a layout, with the index of its parent
abbrev pub under : LayoutScope → Option ℕ → Scope
under s parent = record { name = s.name; parent = parent; keys = s.keys }

-- the scopes with one more at the end, if its name is new and its parent is valid
abbrev pub after_scope : List Scope → LayoutScope → Option (List Scope)
after_scope done s = option_map (λ parent. done ++ under s parent ∷ []) (parent_behind done s)

-- the scopes with all of these at the end, if each fits
abbrev pub built : List Scope → List LayoutScope → Option (List Scope)
built done [] = Some done
built done (s ∷ scopes) = option_and_then (λ more. built more scopes) (after_scope done s)

-- adding a scope fails: `BadLayout` only if the scope does not fit
abbrev pub IsBadScope : List Scope → LayoutScope → Failure ScopeFault → Type 0
IsBadScope done s NoMemory = Unit {0}
IsBadScope done s (Fault f) = (f ≡ BadLayout) × (after_scope done s ≡ None)

-- building a list of scopes fails: `BadLayout` only if one of them does not fit
abbrev pub IsBadList : List LayoutScope → Failure ScopeFault → Type 0
IsBadList scopes NoMemory = Unit {0}
IsBadList scopes (Fault f) = (f ≡ BadLayout) × (built [] scopes ≡ None)
