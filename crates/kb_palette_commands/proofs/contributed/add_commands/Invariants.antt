use Rattle.std.proofs.Common.{◌≡◌, ◌++◌, map, drop}
use Rattle.kb_palette_commands.specs.Contributed.{named_of}
use Rattle.kb_palette_commands.proofs.contributed.add_commands.Given as goal

-- those so far, and then the commands that are left
abbrev pub invariant-loop-number : goal.invariant-loop-number
invariant-loop-number l =
    map named_of l.made.items ++ map (λ e. e) (drop l.number l.commands)
    ≡ map named_of l.fn.made.items ++ l.fn.commands
