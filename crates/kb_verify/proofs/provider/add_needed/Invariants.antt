use Rattle.std.proofs.Common.{◌≡◌, drop, map}
use Rattle.kb_verify.specs.Provider.{provided, with_needed}
use Rattle.kb_verify.proofs.provider.add_needed.Given as goal

-- those that are left give what all give
abbrev pub invariant-loop-provider : goal.invariant-loop-provider
invariant-loop-provider l =
    with_needed l.dependencies (map provided (drop l.provider-index l.providers)) l.callable
    ≡ with_needed l.dependencies (map provided l.providers) l.fn.callable
