use Rattle.std.specs.Prelude.{All}
use Rattle.kb_explain.specs.Seen.{IsSeen}
use Rattle.kb_explain.proofs.seen.add_keys.Given as goal

abbrev pub invariant-loop-key : goal.invariant-loop-key
invariant-loop-key l = All (IsSeen l.fn.scopes.seen) l.fn.seen.items → All (IsSeen l.fn.scopes.seen) l.seen.items
