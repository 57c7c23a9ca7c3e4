-- The model of scopes: the keys that are visible from the focus, and what each call changes and refuses.
use Rattle.std.specs.Prelude.{◌≡◌, ◌≢◌, ℕ, Bool, zero, suc, ◌+◌, ◌<◌, ◌≤◌, if◌then◌else◌, ◌||◌, nat_lt}
use Rattle.std.specs.Prelude.{List, [], ◌∷◌, ◌++◌, Option, Some, None, option_map, option_and_then, is_some}
use Rattle.std.specs.Prelude.{slice_get, length, map, refl, IsSomeAnd, ◌-◌, ◌^◌, min}
use Rattle.std.specs.Coded.{Coded, code_by, coded×, coded_ℕ, coded_list}
use Rattle.std.specs.Option.{option_map_or}
use Rattle.std.specs.Str.{bytes_eq}
use Rattle.std.specs.Ordering.{nat_cmp}
use Rattle.std.specs.Cmp.Lexicographic.{slice_cmp}
use Rattle.std.specs.FinMap.{FinMap, empty, get, insert, remove, len, from_entries, entries}
use Rattle.kb_context.specs.declared.value.ContextValue.{ContextValue}
use Rattle.kb_context.specs.declared.scope_tree.Scope.{Scope}
use Rattle.kb_context.specs.declared.fault.ScopeFault.{ScopeFault}
use Rattle.kb_context.specs.declared.fault.ScopeFault.TheVariants.{UnknownScope, TooManyKeys}

-- a map from the bytes of keys to their values
abbrev pub Keys : Type 0
Keys = FinMap (slice_cmp nat_cmp) ContextValue

-- a map from the bytes of names to indices in a list
abbrev pub Places : Type 0
Places = FinMap (slice_cmp nat_cmp) ℕ

-- the scopes, the outermost first, and the index of the one that has the focus
pub record ScopesData : Type 0 where
  pub scopes : List Scope
  pub focus : ℕ

-- scopes are encoded as the pair of their fields
abbrev pub scopes_code : Coded Scope → Coded ScopesData
scopes_code scope =
    code_by (List Scope × ℕ) (coded× (coded_list scope) coded_ℕ) (λ s. (s.scopes, s.focus))
    (λ p. record { scopes = p.0; focus = p.1 }) (λ _. refl)

-- the scopes, and the number of accepted calls that may change them
pub record RevisedScopes : Type 0 where
  pub seen : ScopesData
  pub revision : ℕ

-- they are encoded as the pair of their fields
abbrev pub revised_code : Coded ScopesData → Coded RevisedScopes
revised_code scopes =
    code_by (ScopesData × ℕ) (coded× scopes coded_ℕ) (λ s. (s.seen, s.revision))
    (λ p. record { seen = p.0; revision = p.1 }) (λ _. refl)

-- new scopes
abbrev pub initial : ScopesData → RevisedScopes
initial scopes = record { seen = scopes; revision = 0 }

-- one more, up to the largest number of 64 bits
abbrev pub next_revision : ℕ → ℕ
next_revision revision = min (revision + 1) (2 ^ 64 - 1)

-- these scopes after an accepted call
abbrev pub revised : RevisedScopes → ScopesData → RevisedScopes
revised old scopes = record { seen = scopes; revision = next_revision old.revision }

-- ---- the keys that are visible from the focus

-- the union of two maps: where both have a key, the inner value counts
unfoldable pub over : Keys → Keys → Keys
over inner outer = from_entries (entries inner ++ entries outer)

-- the union of all maps: where several have a key, the value of the first of them counts
abbrev pub laid : List Keys → Keys
laid [] = empty
laid (keys ∷ more) = over keys (laid more)

-- the maps of the scope at index `at`, of its parent, and so on outward, at most `count` of them
abbrev pub outward : List Scope → ℕ → ℕ → List Keys
outward scopes zero at = []
outward scopes (suc count) at =
    option_map_or (λ s. s.keys ∷ option_map_or (outward scopes count) s.parent []) (slice_get scopes at) []

-- The union of the maps from the scope at index `at` outward. Each parent comes before its scope, so the
-- path has at most as many scopes as there are.
abbrev pub seen_from : List Scope → ℕ → Keys
seen_from scopes at = laid (outward scopes (length scopes) at)

-- what is visible from the focus
abbrev pub context : ScopesData → Keys
context s = seen_from s.scopes s.focus

-- the path outward from the focus ends at the outermost scope: a longer search adds no map
abbrev pub ReachesRoot : ScopesData → Type 0
ReachesRoot s = (more : ℕ)
    → outward s.scopes (length s.scopes + more) s.focus ≡ outward s.scopes (length s.scopes) s.focus

-- ---- indices and values

-- the index of the first of these names that equals `name`
abbrev pub place_in : List ℕ → List (List ℕ) → Option ℕ
place_in name [] = None
place_in name (first ∷ names) =
    if bytes_eq name first then Some 0 else option_map (λ i. suc i) (place_in name names)

abbrev pub scope_names : List Scope → List (List ℕ)
scope_names = map (λ s. s.name)

-- the index of the scope with a name
abbrev pub place_of : List ℕ → List Scope → Option ℕ
place_of name scopes = place_in name (scope_names scopes)

-- the value of a key in the scope at index `at` itself, without the scopes around it
abbrev pub value_at : ScopesData → ℕ → List ℕ → Option ContextValue
value_at s at key = option_and_then (λ scope. get scope.keys key) (slice_get s.scopes at)

-- the value of a key in the scope with a name
abbrev pub value_in : ScopesData → List ℕ → List ℕ → Option ContextValue
value_in s name key = option_and_then (λ at. value_at s at key) (place_of name s.scopes)

-- ---- what each call changes

-- the scopes, with the keys of the one at an index changed
abbrev pub changed : (Keys → Keys) → ℕ → List Scope → List Scope
changed change at [] = []
changed change zero (s ∷ scopes) = record s { keys = change s.keys } ∷ scopes
changed change (suc at) (s ∷ scopes) = s ∷ changed change at scopes

-- the key has the value in the scope at index `at`
abbrev pub with_value_at : ScopesData → ℕ → List ℕ → ContextValue → ScopesData
with_value_at s at key value = record s { scopes = changed (λ keys. insert keys key value) at s.scopes }

-- the key has the value in the scope with a name
abbrev pub with_value : ScopesData → List ℕ → List ℕ → ContextValue → ScopesData
with_value s name key value = option_map_or (λ at. with_value_at s at key value) (place_of name s.scopes) s

-- the scope at index `at` lacks the key
abbrev pub without_value_at : ScopesData → ℕ → List ℕ → ScopesData
without_value_at s at key = record s { scopes = changed (λ keys. remove keys key) at s.scopes }

-- the scope with a name lacks the key
abbrev pub without_value : ScopesData → List ℕ → List ℕ → ScopesData
without_value s name key = option_map_or (λ at. without_value_at s at key) (place_of name s.scopes) s

-- the scope with a name has the focus
abbrev pub with_focus : ScopesData → List ℕ → ScopesData
with_focus s name = option_map_or (λ at. record s { focus = at }) (place_of name s.scopes) s

-- The scope at index `at` now has this value of the key (or lacks it, for `None`). No other key of that
-- scope and no other scope has changed.
pub record ChangesOnly (old new : ScopesData) (at : ℕ) (key : List ℕ)
    (value : Option ContextValue) : Type 0 where
  pub there : value_at new at key ≡ value
  pub other_keys : (other : List ℕ) → other ≢ key → value_at new at other ≡ value_at old at other
  pub other_scopes : (place : ℕ) (other : List ℕ) → place ≢ at
      → value_at new place other ≡ value_at old place other

-- the same for the scope with a name, which exists
abbrev pub ChangesOnlyIn : ScopesData → ScopesData → List ℕ → List ℕ → Option ContextValue → Type 0
ChangesOnlyIn old new name key value =
    IsSomeAnd (place_of name old.scopes) (λ at. ChangesOnly old new at key value)

-- ---- what each call refuses

-- the maximum number of keys in all scopes together
abbrev pub key_limit : ℕ
key_limit = 10000

-- the number of keys in all scopes together
abbrev pub key_count : List Scope → ℕ
key_count [] = 0
key_count (s ∷ scopes) = len s.keys + key_count scopes

-- the limit is not reached, or the scope at index `at` has the key already
abbrev pub has_room : ScopesData → ℕ → List ℕ → Bool
has_room s at key = nat_lt (key_count s.scopes) key_limit || is_some (value_at s at key)

-- the fault of setting a key in the scope at index `at`
abbrev pub set_fault_at : ScopesData → ℕ → List ℕ → Option ScopeFault
set_fault_at s at key = if has_room s at key then None else Some TooManyKeys

-- the fault of setting a key in the scope with a name
abbrev pub set_fault : ScopesData → List ℕ → List ℕ → Option ScopeFault
set_fault s name key =
    option_map_or (λ at. set_fault_at s at key) (place_of name s.scopes) (Some UnknownScope)

-- ---- the invariant of scopes

abbrev pub parents : List Scope → List (Option ℕ)
parents = map (λ s. s.parent)

-- each parent comes before its scope
abbrev pub IsRootedList : List (Option ℕ) → Type 0
IsRootedList parents = (at parent : ℕ) → slice_get parents at ≡ Some (Some parent) → parent < at

abbrev pub IsRooted : List Scope → Type 0
IsRooted scopes = IsRootedList (parents scopes)

-- each parent comes before its scope, and the table has the index of each name
pub record IsPlaced (scopes : List Scope) (places : Places) : Type 0 where
  pub rooted : IsRooted scopes
  pub placed : (name : List ℕ) → get places name ≡ place_of name scopes

-- The invariant: also, the focus is the index of a scope, and the number of keys is counted and at most
-- `key_limit`.
pub record IsWellFormed (scopes : List Scope) (places : Places) (focus keys : ℕ) : Type 0 where
  pub inside : focus < length scopes
  pub rooted : IsRooted scopes
  pub placed : (name : List ℕ) → get places name ≡ place_of name scopes
  pub counted : keys ≡ key_count scopes
  pub few : keys ≤ key_limit

-- ---- the flat map

-- the index of the first scope that has a key: the scope at index `at`, its parent, and so on outward, at
-- most `count` of them
abbrev pub seat_from : List Scope → ℕ → ℕ → List ℕ → Option ℕ
seat_from scopes zero at key = None
seat_from scopes (suc count) at key =
    option_and_then (λ s. if is_some (get s.keys key) then Some at
    else option_and_then (λ parent. seat_from scopes count parent key) s.parent) (slice_get scopes at)

-- the index of the innermost scope from the focus outward that has a key
abbrev pub seat : ScopesData → List ℕ → Option ℕ
seat s key = seat_from s.scopes (length s.scopes) s.focus key

-- a map has the index of the innermost scope of each key that the focus sees
abbrev pub IsFlat : ScopesData → Places → Type 0
IsFlat s flat = (key : List ℕ) → get flat key ≡ seat s key

-- of each key but this one
abbrev pub IsFlatBut : ScopesData → Places → List ℕ → Type 0
IsFlatBut s flat key = (other : List ℕ) → other ≢ key → get flat other ≡ seat s other
