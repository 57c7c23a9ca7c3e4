use Rattle.std.proofs.Common.{◌≡◌, drop, map}
use Rattle.kb_execute.specs.RunCommands.{planned}
use Rattle.kb_stream.specs.Lines.{Begins}
use Rattle.kb_execute.specs.Start.{behind, run_all}
use Rattle.kb_execute.proofs.run_commands.start_steps.Given as goal

abbrev pub invariant-loop-step : goal.invariant-loop-step
invariant-loop-step g l =
    (behind l.trace (run_all (map planned (drop l.step-index l.steps)) l.registry l.core)
    ≡ behind l.fn.trace (run_all (map planned l.steps) l.registry l.fn.core))
    × Begins l.fn.trace l.trace
