use Rattle.kb_code.specs.Found.{callee_of}
use Rattle.kb_vm.proofs.Turns.{found_callable}
use Rattle.kb_vm.proofs.action.call.Goals as goal

pub returns-in-Some-clause-ready : goal.returns-in-Some-clause-ready
returns-in-Some-clause-ready g c =
    c.enter.ensures.ready _ (found_callable _ c.as_str.result.now (callee_of c.in-Some.callee) c.in-Some.ensures)
