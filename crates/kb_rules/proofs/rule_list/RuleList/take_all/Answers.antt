use Rattle.std.proofs.Common.{◌≡◌, ◌∷◌, ◌∙◌, [], map, take, drop, ap, sym, arith, rules}
use Rattle.std.specs.Vec.Iter.{into_iter_items}
use Rattle.std.proofs.lemmas.Grind.{common_steps}
use Rattle.std.proofs.lemmas.List.{length-map}
use Rattle.serde_json.specs.View.{view}
use Rattle.kb_rules.specs.RuleList.{listed, with_read}
use Rattle.kb_rules.proofs.DroppedLemmas.{count, counted}
use Rattle.kb_rules.proofs.RuleListLemmas.{reads_next, take_next, drop_next, take_all}
use Rattle.kb_rules.proofs.rule_list.RuleList.take_all.Goals as goal

pub loop-value-preserved : goal.loop-value-preserved
loop-value-preserved c =
    let elements = map view c.args.values.items in
    let place = c.loop-value.place in
    let left : drop place elements
    ≡ view c.in-Some.value ∷ map view (into_iter_items c.next.new.self) =
    grind (arith, common_steps) in
    let taken : c.take.new.self ≡ with_read c.args.origin place c.in_ok-read.read c.loop-value.self =
    search rules in
    let next = reads_next c.args.origin c.args.platform c.loop-value.self place (take place elements)
    (view c.in-Some.value) c.in_ok-read.read c.loop-value.invariant.reads c.in_ok-read.ensures
    c.in_ok-take.ensures.whole c.in_ok-take.ensures.right in
    record {
      reads = rw (taken, take_next place elements _ _ left) next;
      rest = sym (drop_next place elements _ _ left);
    }

pub returns-clause-read : goal.returns-clause-read
returns-clause-read c =
    let elements = map view c.args.values.items in
    let left : drop c.loop-value.place elements ≡ [] = grind (arith, common_steps) in
    c.loop-value.invariant.reads.list_is
    ∙ ap (listed c.loop-value.self.unread c.args.origin c.args.platform)
    (take_all c.loop-value.place elements left)

pub returns-clause-each_once : goal.returns-clause-each_once
returns-clause-each_once c =
    let elements = map view c.args.values.items in
    ap count (returns-clause-read c)
    ∙ counted c.loop-value.self.unread c.args.origin c.args.platform 0 elements
    ∙ length-map c.args.values.items view
