use Rattle.std.proofs.Common.{◌≡◌, drop}
use Rattle.kb_registry.specs.Among.{there_by}
use Rattle.kb_registry.specs.Missing.{missing_from}
use Rattle.kb_registry.proofs.registry.Registry.missing_from.Given as goal

-- the search in the remaining handlers gives the result
abbrev pub invariant-loop-place : goal.invariant-loop-place
invariant-loop-place g l =
    missing_from (there_by l.among l.self) (drop l.place l.handlers) (drop l.place l.callees)
    ≡ missing_from (there_by l.among l.self) l.handlers l.callees
