-- The flat form of a clause: a list of jumps, each with an atom and the two places where evaluation goes on.
-- Place 0 accepts and place 1 rejects. The jump at index n has place n + 2, and leads to lower places.
use Rattle.std.specs.Prelude.{◌≡◌, ℕ, zero, suc, ◌+◌, ◌<◌, ◌≤◌, List, length, Bool, not, ◌||◌, nat_eq}
use Rattle.std.specs.Prelude.{Option, Some, None, slice_get, if◌then◌else◌}
use Rattle.std.specs.List.{list_any}
use Rattle.kb_context.specs.Scopes.{Keys}
use Rattle.kb_when.specs.declared.jump.Jump.{Jump}
use Rattle.kb_when.specs.Leaf.{marked_of_leaf}
use Rattle.kb_when.specs.Marked.{Marked, marks_of, marked_value}

-- the atom of a jump holds
abbrev pub atom_holds : Keys → Jump → Bool
atom_holds keys j = marked_value keys (marked_of_leaf j.atom.value)

-- the atom of a jump has a pattern that is not marked as unread
abbrev pub has_read_pattern : Jump → Bool
has_read_pattern j = list_any not (marks_of (marked_of_leaf j.atom.value))

-- the place after a jump
abbrev pub target : Keys → Jump → ℕ
target keys j = if atom_holds keys j then j.yes else j.no

-- the place after the jump at a place; without a jump, the same place
abbrev pub target_or : Keys → Option Jump → ℕ → ℕ
target_or keys None place = place
target_or keys (Some j) place = target keys j

-- whether the first n jumps accept from a place
abbrev pub accepts_by : List Jump → Keys → ℕ → ℕ → Bool
accepts_by jumps keys zero place = nat_eq place 0
accepts_by jumps keys (suc n) place =
    accepts_by jumps keys n (if nat_eq place (n + 2) then target_or keys (slice_get jumps n) place else place)

-- whether the jumps accept from a place
abbrev pub accepts : List Jump → Keys → ℕ → Bool
accepts jumps keys place = accepts_by jumps keys (length jumps) place

-- each jump leads to lower places
abbrev pub LeadsBack : List Jump → Type 0
LeadsBack jumps = (i : ℕ) (j : Jump) → slice_get jumps i ≡ Some j → (j.yes < i + 2) × (j.no < i + 2)

-- the jumps from a place on decide as the clause does, for all context keys
pub record Decides (jumps : List Jump) (m : Marked) (entry : ℕ) : Type 0 where
  pub inside : entry < length jumps + 2
  pub back : LeadsBack jumps
  pub means : (keys : Keys) → accepts jumps keys entry ≡ marked_value keys m
  pub patterns : list_any has_read_pattern jumps ≡ list_any not (marks_of m)

-- With the new jumps, evaluation from `place` decides by the clause between `yes` and `no`, which are places
-- of the old jumps. What the old jumps mean does not change.
pub record Extends (old new : List Jump) (m : Marked) (yes no place : ℕ) : Type 0 where
  pub inside : place < length new + 2
  pub means : (keys : Keys) → accepts new keys place
      ≡ (if marked_value keys m then accepts old keys yes else accepts old keys no)
  pub keeps : (keys : Keys) (other : ℕ) → other < length old + 2
      → accepts new keys other ≡ accepts old keys other
  pub grows : length old ≤ length new
  pub back : LeadsBack old → LeadsBack new
  pub patterns : list_any has_read_pattern new
      ≡ (list_any not (marks_of m) || list_any has_read_pattern old)
