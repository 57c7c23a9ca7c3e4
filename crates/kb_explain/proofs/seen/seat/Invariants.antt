use Rattle.std.proofs.Common.{◌≡◌, ◌-◌, length}
use Rattle.kb_context.specs.Scopes.{seat_from}
use Rattle.kb_explain.proofs.seen.seat.Given as goal

-- what is left of the search gives the same
abbrev pub invariant-loop : goal.invariant-loop
invariant-loop l =
    seat_from l.all (length l.all - l.counter) l.at l.key ≡ seat_from l.all (length l.all) l.from l.key
