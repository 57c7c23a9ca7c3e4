use Rattle.std.proofs.Common.{sym, subst}
use Rattle.kb_vm.specs.Outcome.{Gives}
use Rattle.kb_vm.proofs.Starts.{coded_start}
use Rattle.kb_vm.proofs.starting.start_coded.Goals as goal

pub returns-clause-answer : goal.returns-clause-answer
returns-clause-answer g c =
    let h = c.args.handler in
    subst (λ a. Gives a c.args.core c.start_handler.result)
    (sym (coded_start (g.L.Commands.live c.args.commands.now) h.command h c.args.args c.args.core
    c.requires.live c.requires.fit)) c.start_handler.ensures.ends
