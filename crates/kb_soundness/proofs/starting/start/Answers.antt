use Rattle.kb_soundness.proofs.Starts.{starts_without_trap}
use Rattle.kb_soundness.proofs.starting.start.Goals as goal

pub returns-clause-sound : goal.returns-clause-sound
returns-clause-sound g c = λ all f.
    starts_without_trap (g.L.Commands.live c.args.commands.now) all c.args.command.now c.args.args c.args.core c.start.result f c.start.ensures.answer
