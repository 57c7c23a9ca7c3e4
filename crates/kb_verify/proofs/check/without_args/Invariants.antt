use Rattle.std.proofs.Common.{◌≡◌, ◌≤◌, length, take, drop}
use Rattle.std.specs.Prelude.{reverse}
use Rattle.kb_verify.specs.Check.{takes_each}
use Rattle.kb_verify.proofs.check.without_args.Given as goal

abbrev pub invariant-loop-i : goal.invariant-loop-i
invariant-loop-i l = record {
  room : l.i ≤ length l.rest;
  left : drop (length l.params) l.fn.shape ≡ drop l.i l.rest;
  same : takes_each l.params (reverse (take (length l.params) l.fn.shape))
      ≡ takes_each (take l.i l.params) (reverse (take l.i l.rest));
}
