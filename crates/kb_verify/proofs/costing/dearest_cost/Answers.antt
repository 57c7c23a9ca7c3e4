use Rattle.kb_verify.proofs.Refutes.{fault_refutes}
use Rattle.kb_verify.proofs.costing.dearest_cost.Goals as goal

pub returns-clause-accepts : goal.returns-clause-accepts
returns-clause-accepts c = fault_refutes c.args.callable.now c.args.handler.now c.in-Err.failure c.in-Err.ensures
