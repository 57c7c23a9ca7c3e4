use Rattle.kb_soundness.proofs.Starts.{coded_without_trap}
use Rattle.kb_soundness.proofs.starting.start_coded.Goals as goal

pub returns-clause-sound : goal.returns-clause-sound
returns-clause-sound g c = λ all.
    let h = c.args.handler in
    coded_without_trap (g.L.Commands.live c.args.commands.now) all h.command h c.args.args c.args.core
    c.start_coded.result c.requires.live c.requires.fit c.start_coded.ensures.answer
