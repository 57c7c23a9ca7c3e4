use Rattle.std.proofs.Common.{◌≡◌, ◌≤◌, ℕ, length}
use Rattle.kb_verify.specs.Costs.{IsDearest}
use Rattle.kb_verify.proofs.backward.dearest_costs.Given as goal

abbrev pub invariant-loop-place : goal.invariant-loop-place
invariant-loop-place l = record {
  size : length l.costs.items ≡ length l.handler.code;
  each : (q : ℕ) → l.place ≤ q → IsDearest l.callable l.handler l.costs.items q;
}
