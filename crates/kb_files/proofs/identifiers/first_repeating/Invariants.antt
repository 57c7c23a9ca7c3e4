use Rattle.std.proofs.Common.{◌≡◌, [], map, take, drop}
use Rattle.kb_files.specs.Identifiers.{first_failing, repeats}
use Rattle.kb_files.proofs.identifiers.first_repeating.Given as goal

-- those that are left, beside the earlier ones, give the same
abbrev pub invariant-loop-number : goal.invariant-loop-number
invariant-loop-number g l =
    first_failing repeats (map g.E.Identified.names (take l.number l.extensions))
    (map g.E.Identified.names (drop l.number l.extensions))
    ≡ first_failing repeats [] (map g.E.Identified.names l.fn.extensions)
