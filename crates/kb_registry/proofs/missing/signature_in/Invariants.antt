use Rattle.std.proofs.Common.{◌≡◌, drop}
use Rattle.kb_code.specs.Face.{declared_among}
use Rattle.kb_registry.proofs.missing.signature_in.Given as goal

abbrev pub invariant-loop-handler : goal.invariant-loop-handler
invariant-loop-handler l =
    declared_among (drop l.handler-index l.handlers) l.name ≡ declared_among l.handlers l.name
