-- The result of a search, with the rule itself instead of a reference, or with its position.
use Rattle.std.specs.Prelude.{◌≡◌, List, Option, Some, option_map, slice_get}
use Rattle.kb_rules.specs.declared.rule.Rule.{Rule}
use Rattle.kb_resolve.specs.declared.found.Found.{Found}
use Rattle.kb_resolve.specs.declared.found.Found.TheVariants as place
use Rattle.kb_resolve.specs.declared.resolved.Placed.{Placed}
use Rattle.kb_resolve.specs.declared.resolved.Resolved.{Resolved}
use Rattle.kb_resolve.specs.declared.resolved.Resolved.TheVariants as resolved

pub data Resolution : Type 0 where
  found : Rule → Resolution
  more : Resolution
  nothing : Resolution

abbrev pub resolution_of : Resolved → Resolution
resolution_of (resolved.Found placed) = found placed.rule.now
resolution_of resolved.More = more
resolution_of resolved.Nothing = nothing

-- the same without a reference
abbrev pub place_of : Resolved → Found
place_of (resolved.Found placed) = place.At placed.position
place_of resolved.More = place.More
place_of resolved.Nothing = place.Nothing

-- what was found among these rules, of which there is one at each position that a search gives
abbrev pub found_in : List Rule → Found → Option Resolution
found_in rules (place.At position) = option_map found (slice_get rules position)
found_in rules place.More = Some more
found_in rules place.Nothing = Some nothing

-- the rule is the one at its position
abbrev pub IsAt : List Rule → Placed → Type 0
IsAt rules placed = slice_get rules placed.position ≡ Some placed.rule.now
