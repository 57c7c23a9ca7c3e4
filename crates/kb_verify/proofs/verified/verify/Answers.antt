use Rattle.kb_verify.proofs.Refutes.{fault_refutes}
use Rattle.kb_verify.proofs.verified.verify.Goals as goal

pub returns-in-Err-clause-accepts : goal.returns-in-Err-clause-accepts
returns-in-Err-clause-accepts c = fault_refutes c.args.callable.now c.args.handler c.in-Err.failure c.in-Err.ensures
