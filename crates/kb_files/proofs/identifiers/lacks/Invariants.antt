use Rattle.std.proofs.Common.{◌≡◌, map, drop, not}
use Rattle.std.specs.List.{list_any}
use Rattle.kb_files.specs.Identifiers.{is_among, lacks}
use Rattle.kb_files.proofs.identifiers.lacks.Given as goal

-- those that are left give the same
abbrev pub invariant-loop-id : goal.invariant-loop-id
invariant-loop-id g l =
    list_any (λ id. not (is_among id (map g.E.Identified.names l.earlier))) (drop l.id-index l.id-items)
    ≡ lacks (map g.E.Identified.names l.fn.earlier) (g.E.Identified.names l.fn.extension)
