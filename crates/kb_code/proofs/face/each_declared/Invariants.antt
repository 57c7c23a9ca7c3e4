use Rattle.std.proofs.Common.{◌≡◌, drop}
use Rattle.kb_code.specs.Face.{each_declared}
use Rattle.kb_code.proofs.face.each_declared.Given as goal

abbrev pub invariant-loop-handler : goal.invariant-loop-handler
invariant-loop-handler l = each_declared (drop l.handler-index l.handlers) l.others ≡ each_declared l.handlers l.others
