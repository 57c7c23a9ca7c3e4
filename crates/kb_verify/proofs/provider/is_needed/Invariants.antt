use Rattle.std.proofs.Common.{◌≡◌, drop}
use Rattle.kb_verify.specs.Provider.{is_needed}
use Rattle.kb_verify.proofs.provider.is_needed.Given as goal

abbrev pub invariant-loop-other : goal.invariant-loop-other
invariant-loop-other l = is_needed l.id (drop l.other-index l.dependencies) ≡ is_needed l.id l.dependencies
