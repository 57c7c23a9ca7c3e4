use Rattle.std.proofs.Common.{◌≡◌, length}
use Rattle.kb_keyboard.specs.Layout.{has_twice}
use Rattle.kb_keyboard.proofs.layout.has_twice.Given as goal

-- those that are left have a code twice if all have
abbrev pub invariant-loop-left : goal.invariant-loop-left
invariant-loop-left l = has_twice l.left ≡ has_twice l.keys

abbrev pub decreases-loop-left : goal.decreases-loop-left
decreases-loop-left l = length l.left
