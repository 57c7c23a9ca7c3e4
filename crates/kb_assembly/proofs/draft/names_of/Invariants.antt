use Rattle.std.proofs.Common.{◌≡◌, take}
use Rattle.kb_assembly.specs.Draft.{names_of}
use Rattle.kb_assembly.proofs.draft.names_of.Given as goal

abbrev pub invariant-loop-param : goal.invariant-loop-param
invariant-loop-param l = l.names ≡ names_of (take l.param-index l.params)
