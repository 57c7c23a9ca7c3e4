use Rattle.kb_vm.proofs.Plain.{plain_steps}
use Rattle.kb_vm.proofs.laws.plain_steps.Goals as goal

pub returns : goal.returns
returns c = plain_steps
