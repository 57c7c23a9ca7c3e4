use Rattle.std.proofs.Common.{◌≡◌, ℕ, List, [], map, filter, take}
use Rattle.std.specs.Option.{option_map_or}
use Rattle.std.specs.HashMap.{get_by_text}
use Rattle.std.specs.Str.{bytes_eq}
use Rattle.kb_rules.specs.RemovalIndex.{target_of}
use Rattle.kb_rules.proofs.removal_index.RemovalIndex.new.Given as goal

-- under each text stand those so far that it names
abbrev pub invariant-loop-removal : goal.invariant-loop-removal
invariant-loop-removal l =
    (text : List ℕ)
    → option_map_or (λ removals. map (λ r. r.value) removals.items) (get_by_text l.table text) []
    ≡ filter (λ removal. bytes_eq text (target_of removal))
    (map (λ r. r.value) (take l.removal-index l.removals))
