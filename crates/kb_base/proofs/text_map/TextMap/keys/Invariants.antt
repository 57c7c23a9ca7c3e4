use Rattle.std.proofs.Common.{◌≡◌, ℕ, List, is_some, map, string_bytes}
use Rattle.std.specs.Prelude.{◌||◌}
use Rattle.std.specs.List.{list_any}
use Rattle.std.specs.Str.{bytes_eq}
use Rattle.std.specs.Map.{lookup}
use Rattle.std.specs.FinMap as finite
use Rattle.kb_base.proofs.text_map.TextMap.keys.Given as goal

-- a key is among those that were taken, or among the entries that are left
abbrev pub invariant-loop-key : goal.invariant-loop-key
invariant-loop-key g l =
    (q : List ℕ)
    → (list_any (bytes_eq q) (map (λ k. k.now) l.keys.items)
    || is_some (lookup (λ s. bytes_eq q (string_bytes s)) l.key-iterator))
    ≡ finite.contains_key l.fn.self q
