use Rattle.std.proofs.Common.{◌∙◌, ap}
use Rattle.kb_extension_code.proofs.CheckedLemmas.{refused_code}
use Rattle.kb_extension_code.proofs.checked.checked_codes.Goals as goal
use Rattle.kb_extension_code.specs.Callable.{callable_of}

pub returns : goal.returns
returns g c =
    let args = c.args in
    let own = ap (λ own. callable_of args.extensions.now args.number own args.registry.now) c.as_slice.ensures in
    refused_code args.extensions.now args.number args.handlers args.registry.now c.in_ok-callable.callable
    c.in-Err.failure c.failure_at.result (c.in_ok-callable.ensures ∙ own) c.in-Err.ensures c.failure_at.ensures
