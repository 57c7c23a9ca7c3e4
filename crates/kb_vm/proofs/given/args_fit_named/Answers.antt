use Rattle.kb_vm.proofs.Fitting.{other_lengths_in}
use Rattle.kb_vm.proofs.given.args_fit_named.Goals as goal

pub returns-then-params-args : goal.returns-then-params-args
returns-then-params-args c = other_lengths_in _ _ _ c.if-params-args.true
