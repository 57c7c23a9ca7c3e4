use Rattle.std.proofs.Common.{◌≡◌, ◌++◌, map, drop}
use Rattle.kb_bindings.specs.Sources.{contribution_of}
use Rattle.kb_bindings.proofs.bindings.contribute.Given as goal

-- those so far, and then those of the commands that are left
abbrev pub invariant-loop-number : goal.invariant-loop-number
invariant-loop-number l =
    l.made.items ++ map contribution_of (drop l.number l.commands)
    ≡ l.fn.made.items ++ map contribution_of l.fn.commands
