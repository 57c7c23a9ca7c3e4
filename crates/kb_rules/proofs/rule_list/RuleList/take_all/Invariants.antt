use Rattle.std.proofs.Common.{◌≡◌, map, take, drop}
use Rattle.std.specs.Vec.Iter.{into_iter_items}
use Rattle.serde_json.specs.View.{view}
use Rattle.kb_rules.proofs.RuleListLemmas.{Reads}
use Rattle.kb_rules.proofs.rule_list.RuleList.take_all.Given as goal

-- the list is that of the elements so far, and the others are left
abbrev pub invariant-loop-value : goal.invariant-loop-value
invariant-loop-value l = record {
  reads : Reads l.fn.origin l.fn.platform l.self l.place (take l.place (map view l.fn.values.items));
  rest : map view (into_iter_items l.value-iterator) ≡ drop l.place (map view l.fn.values.items);
}
