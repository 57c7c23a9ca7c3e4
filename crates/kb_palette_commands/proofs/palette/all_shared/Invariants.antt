use Rattle.std.proofs.Common.{◌≡◌, ◌++◌, drop}
use Rattle.kb_palette_commands.proofs.palette.all_shared.Given as goal

-- those so far, and then those that are left
abbrev pub invariant-loop-clause : goal.invariant-loop-clause
invariant-loop-clause l = l.made ++ drop l.clause-index l.clauses ≡ l.fn.clauses
