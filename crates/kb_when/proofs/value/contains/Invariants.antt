use Rattle.std.proofs.Common.{◌≡◌, drop}
use Rattle.std.specs.List.{list_any}
use Rattle.std.specs.Str.{bytes_eq}
use Rattle.kb_when.proofs.value.contains.Given as goal

-- those that are left give the same
abbrev pub invariant-loop-item : goal.invariant-loop-item
invariant-loop-item l =
    list_any (bytes_eq l.text) (drop l.item-index l.item-items) ≡ list_any (bytes_eq l.text) l.texts
