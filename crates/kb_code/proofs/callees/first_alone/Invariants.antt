use Rattle.std.proofs.Common.{◌≡◌, ◌==◌, ◌<◌, ℕ, false, length, get_or}
use Rattle.kb_code.proofs.callees.first_alone.Given as goal

abbrev pub invariant-loop-place : goal.invariant-loop-place
invariant-loop-place l =
    (length l.reached.items ≡ l.place)
    × ((q : ℕ) → q < l.place → get_or l.reached.items q false ≡ (q == 0))
