use Rattle.std.proofs.Common.{◌≡◌, length}
use Rattle.kb_explain.specs.Palette.{named_alone}
use Rattle.kb_explain.proofs.palette.command_named.Given as goal

-- the command is the first one among those that are left
abbrev pub invariant-loop-rest : goal.invariant-loop-rest
invariant-loop-rest l = named_alone l.fn.name l.rest ≡ named_alone l.fn.name l.fn.commands

abbrev pub decreases-loop-rest : goal.decreases-loop-rest
decreases-loop-rest l = length l.rest
