use Rattle.std.specs.Prelude.{All}
use Rattle.kb_explain.specs.Seen.{IsSeen}
use Rattle.kb_explain.proofs.seen.keys_seen.Given as goal

abbrev pub invariant-loop : goal.invariant-loop
invariant-loop l = All (IsSeen l.fn.scopes.seen) l.made.items
