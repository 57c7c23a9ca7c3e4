use Rattle.std.proofs.Common.{◌≡◌, ◌+◌, ◌≤◌, false, length, map}
use Rattle.kb_script.specs.Script.{lines_of, said_from, said_of}
use Rattle.kb_script.specs.Shelf.{beside}
use Rattle.kb_script.proofs.StreamLemmas.{StreamsUpTo}
use Rattle.kb_script.proofs.script_run.run_lines.Given as goal

abbrev pub invariant-loop-trapped : goal.invariant-loop-trapped
invariant-loop-trapped g l =
    StreamsUpTo l.kept (said_of l.bytes) (beside l.fn.session (map g.C.HostCommand.stands_for l.fn.shelf.items))
    (beside l.session (map g.C.HostCommand.stands_for l.shelf.items))
    (g.W.Write.contents l.fn.writer) (g.W.Write.contents l.writer) (said_from l.number (lines_of l.rest))
    × (l.number + length l.rest ≤ length l.bytes + 1)
    × (l.session.state.stopped ≡ false)
    × (l.mark ≡ length l.fn.session.trace)

abbrev pub decreases-loop-trapped : goal.decreases-loop-trapped
decreases-loop-trapped g l = length l.rest
