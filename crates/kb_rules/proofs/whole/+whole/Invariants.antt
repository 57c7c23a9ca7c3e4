use Rattle.std.proofs.Common.{◌≡◌, drop}
use Rattle.serde_json.specs.View.{items_view, members_view}
use Rattle.kb_rules.specs.Whole.{items_whole, members_whole}
use Rattle.kb_rules.proofs.whole.+whole.Given as goal

-- those that are left give the same
abbrev pub invariant-all_items_whole-loop-item : goal.invariant-all_items_whole-loop-item
invariant-all_items_whole-loop-item l =
    items_whole (items_view (drop l.item-index l.item-items)) ≡ items_whole (items_view l.initial.item-items)

abbrev pub invariant-all_members_whole-loop-name : goal.invariant-all_members_whole-loop-name
invariant-all_members_whole-loop-name l =
    members_whole (members_view l._name-iterator) ≡ members_whole (members_view l.initial.members.entries)
