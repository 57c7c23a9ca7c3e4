use Rattle.std.proofs.Common.{◌≡◌, map, drop}
use Rattle.std.specs.List.{list_any}
use Rattle.kb_check_report.specs.Whose.{is_unknown}
use Rattle.kb_check_report.proofs.whose.is_any_unknown.Given as goal

-- those that are left give the same
abbrev pub invariant-loop-name : goal.invariant-loop-name
invariant-loop-name l =
    list_any (is_unknown l.files l.ids) (map (λ name. name.now) (drop l.name-index l.all))
    ≡ list_any (is_unknown l.fn.files l.fn.ids) (map (λ name. name.now) l.fn.all)
