use Rattle.std.proofs.Common.{◌≡◌, map, drop}
use Rattle.kb_files.specs.Identifiers.{is_among}
use Rattle.kb_files.proofs.identifiers.is_among.Given as goal

-- those that are left give the same
abbrev pub invariant-loop-other : goal.invariant-loop-other
invariant-loop-other g l =
    is_among l.id (map g.E.Identified.names (drop l.other-index l.others))
    ≡ is_among l.fn.id (map g.E.Identified.names l.fn.others)
