-- The place of an extension's group.
use Rattle.std.specs.Prelude.{◌≡◌, ℕ, ◌<◌, List, Option, Some, None, MatchOption, length, option_map, remove}
use Rattle.std.specs.Prelude.{slice_get, slice_set}
use Rattle.kb_handler_table.specs.Live.{Group, changed, group_of, without_group}

-- `place` is that of the extension's group: removing it leaves the others, and a change of the extension's
-- group is one of the group there
pub record IsGroupAt (extension : ℕ) (groups : List Group) (place : ℕ) : Type 0 where
  pub within : place < length groups
  pub its : group_of extension groups ≡ option_map (λ g. g.codes) (slice_get groups place)
  pub others : without_group extension groups ≡ remove groups place
  pub change : (change : Group → Group) (g : Group) → slice_get groups place ≡ Some g
      → changed change extension groups ≡ slice_set groups place (change g)

-- the extension has no group
pub record IsNoGroup (extension : ℕ) (groups : List Group) : Type 0 where
  pub none : group_of extension groups ≡ None
  pub all : without_group extension groups ≡ groups
  pub same : (change : Group → Group) → changed change extension groups ≡ groups

-- the place of the extension's group, if it has one
abbrev pub IsPlaceOf : ℕ → List Group → Option ℕ → Type 0
IsPlaceOf extension groups place =
    MatchOption place (IsNoGroup extension groups) (λ place. IsGroupAt extension groups place)
