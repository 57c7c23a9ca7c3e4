use Rattle.std.proofs.Common.{◌≡◌, drop}
use Rattle.kb_verify.specs.Provider.{with_handlers}
use Rattle.kb_verify.proofs.provider.add_handlers.Given as goal

-- those that are left give what all give
abbrev pub invariant-loop-handler : goal.invariant-loop-handler
invariant-loop-handler l =
    with_handlers (drop l.handler-index l.handlers) l.callable ≡ with_handlers l.handlers l.fn.callable
