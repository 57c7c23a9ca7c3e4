use Rattle.kb_vm.proofs.Bound.{run_step}
use Rattle.kb_vm.proofs.laws.runs_by_step.Goals as goal

pub returns : goal.returns
returns c = run_step
