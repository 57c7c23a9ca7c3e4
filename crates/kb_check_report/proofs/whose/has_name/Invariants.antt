use Rattle.std.proofs.Common.{◌≡◌, map, drop}
use Rattle.std.specs.List.{list_any}
use Rattle.kb_check_report.specs.Whose.{names}
use Rattle.kb_check_report.proofs.whose.has_name.Given as goal

-- those that are left give the same
abbrev pub invariant-loop-name : goal.invariant-loop-name
invariant-loop-name l =
    list_any (names l.files l.ids l.file) (map (λ name. name.now) (drop l.name-index l.all))
    ≡ list_any (names l.fn.files l.fn.ids l.fn.file) (map (λ name. name.now) l.fn.all)
