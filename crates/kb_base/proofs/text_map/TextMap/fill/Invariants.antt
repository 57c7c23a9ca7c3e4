use Rattle.std.proofs.Common.{◌≡◌, ℕ, List, is_some, string_bytes}
use Rattle.std.specs.Str.{bytes_eq}
use Rattle.std.specs.Map.{lookup}
use Rattle.std.specs.FinMap as map
use Rattle.kb_base.specs.TextMap.{filled}
use Rattle.kb_base.proofs.text_map.TextMap.fill.Given as goal

-- the entries that are left fill what has been filled
abbrev pub invariant-loop-key : goal.invariant-loop-key
invariant-loop-key g l =
    (q : List ℕ)
    → filled (map.get l.other q) (is_some (lookup (λ s. bytes_eq q (string_bytes s)) l.key-iterator)) l.number
    ≡ filled (map.get l.fn.other q) (map.contains_key l.fn.self q) l.number
