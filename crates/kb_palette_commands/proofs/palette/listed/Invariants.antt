use Rattle.std.proofs.Common.{◌≡◌, ◌++◌, map, drop}
use Rattle.kb_palette_commands.specs.Contributed.{named_of}
use Rattle.kb_palette_commands.specs.Items.{clauses_in}
use Rattle.kb_palette_commands.specs.Palette.{with_clauses}
use Rattle.kb_palette_commands.proofs.palette.listed.Given as goal

-- those so far, and then those that are left
abbrev pub invariant-loop-contributed : goal.invariant-loop-contributed
invariant-loop-contributed l =
    l.made.items ++ map (λ c. with_clauses (clauses_in l.items) (named_of c)) (drop l.contributed-index l.commands)
    ≡ map (λ c. with_clauses (clauses_in l.items) (named_of c)) l.fn.commands
