use Rattle.std.proofs.Common.{length, ap, arith}
use Rattle.kb_bindings.proofs.BindingLemmas.{flag_there, none_enabled, none_switched, set_flag}
use Rattle.kb_bindings.proofs.bindings.set_enabled.Goals as goal

pub returns-then-place-as_slice-clause-before : goal.returns-then-place-as_slice-clause-before
returns-then-place-as_slice-clause-before c =
    none_enabled c.args.place c.args.extensions.now.items (omega (arith, ap length c.as_slice.ensures.value))

pub returns-then-place-as_slice-clause-set : goal.returns-then-place-as_slice-clause-set
returns-then-place-as_slice-clause-set c =
    none_switched c.args.place c.args.enabled c.args.extensions.now.items
    (omega (arith, ap length c.as_slice.ensures.value))

pub returns-clause-before : goal.returns-clause-before
returns-clause-before c =
    flag_there c.args.place c.index_mut-extension.result.now c.args.extensions.now.items
    (omega (arith, ap length c.as_slice.ensures.value)) c.index_mut-extension.ensures.value

pub returns-clause-set : goal.returns-clause-set
returns-clause-set c =
    set_flag c.args.place c.args.enabled c.index_mut-extension.result.now c.args.extensions.now.items
    (omega (arith, ap length c.as_slice.ensures.value)) c.index_mut-extension.ensures.value
