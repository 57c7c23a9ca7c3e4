use Rattle.std.specs.Prelude.{◌≤◌, length}
use Rattle.kb_keycheck.proofs.logging.log_to_reload.Given as goal

abbrev pub invariant-loop-bytes : goal.invariant-loop-bytes
invariant-loop-bytes g l = length l.rest.bytes.now ≤ length l.fn.first.bytes.now

abbrev pub decreases-loop-bytes : goal.decreases-loop-bytes
decreases-loop-bytes g l = length l.rest.bytes.now
