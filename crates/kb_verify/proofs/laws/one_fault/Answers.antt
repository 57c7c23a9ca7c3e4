use Rattle.kb_verify.proofs.Refutes.{fault_unique}
use Rattle.kb_verify.proofs.laws.one_fault.Goals as goal

pub returns : goal.returns
returns c = fault_unique
