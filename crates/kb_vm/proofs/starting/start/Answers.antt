use Rattle.kb_code.specs.Found.{callee_of}
use Rattle.kb_vm.proofs.Turns.{found_callable}
use Rattle.kb_vm.proofs.starting.start.Goals as goal

pub start_found-requires : goal.start_found-requires
start_found-requires g c =
    found_callable _ c.args.command.now (callee_of c.in-Some.callee) c.in-Some.ensures
