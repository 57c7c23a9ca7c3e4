use Rattle.std.proofs.Common.{length, ◌-◌}
use Rattle.kb_jsonc.specs.Scan.{GoesOn}
use Rattle.kb_jsonc.proofs.scan.pass_blanks.Given as goal

-- the white space so far is passed
abbrev pub invariant-loop-at : goal.invariant-loop-at
invariant-loop-at l = GoesOn l.bytes l.scan l.bytes
    (record { at = l.at; before = l.scan.before; comma = l.scan.comma })

abbrev pub decreases-loop-at : goal.decreases-loop-at
decreases-loop-at l = length l.bytes - l.at
