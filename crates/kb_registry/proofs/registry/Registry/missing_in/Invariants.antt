use Rattle.std.proofs.Common.{◌≡◌, drop}
use Rattle.kb_registry.specs.Among.{there_by}
use Rattle.kb_registry.specs.Missing.{missing_in}
use Rattle.kb_registry.proofs.registry.Registry.missing_in.Given as goal

-- the search in the remaining callees gives the result
abbrev pub invariant-loop-callee : goal.invariant-loop-callee
invariant-loop-callee g l =
    missing_in (there_by l.among l.self) l.handler (drop l.callee-index l.callees)
    ≡ missing_in (there_by l.among l.self) l.handler l.callees
