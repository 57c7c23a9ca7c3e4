use Rattle.std.proofs.Common.{◌≡◌, ◌++◌, ◌∷◌, [], ◌∙◌, ap, arith, length, length-append, rules, subst, sym}
use Rattle.kb_explain_report.specs.RulePlaces.{ArePlacedFrom}
use Rattle.kb_explain_report.proofs.RulePlacesLemmas.{placed_more, placed_one}
use Rattle.kb_explain_report.proofs.rule_places.positions_of_items.Goals as goal

pub loop-place-preserved : goal.loop-place-preserved
loop-place-preserved c =
    let source = c.args.source.now in
    let home = c.args.home in
    let place = c.loop-place.place in
    let before = c.loop-place.positions.items in
    let position = c.beginning.result in
    let more : c.push.new.self.items ≡ before ++ position ∷ [] = search rules in
    let one = placed_one source home place c.in_ok-rule.rule c.loop-place.walker.text.now position
    c.in_ok-rule.ensures c.beginning.ensures.position c.loop-place.invariant.text in
    record {
      placed = subst (ArePlacedFrom source home 0) (sym more)
          (placed_more source home 0 before place position (omega arith) c.loop-place.invariant.placed one);
      count = omega (arith, ap length more, length-append before (position ∷ []));
      text = c.beginning.ensures.text ∙ c.loop-place.invariant.text;
    }
