use Rattle.std.proofs.Common.{◌≡◌, ◌∙◌, ◌++◌, List, Bool, true, false, Global, Some, ap, sym, subst, map, rules}
use Rattle.std.specs.Prelude.{All, ◌&&◌}
use Rattle.std.proofs.lemmas.List.Elements.{All-push}
use Rattle.std.specs.Iterator.Adapters.{rev_source}
use Rattle.std.specs.Slice.Iter.{iter_rest}
use Rattle.std.specs.declared.rc.Rc.{Rc}
use Rattle.kb_context.specs.Scopes.{context}
use Rattle.kb_explain.specs.Press.{IsFirstObstacle, IsObstacle, IsRightlyPassed}
use Rattle.kb_explain.specs.declared.press.Passed.{Passed}
use Rattle.kb_keys.specs.Chord.{begins_with}
use Rattle.kb_resolve.specs.Enablements.{enablement_in}
use Rattle.kb_resolve.specs.Resolver.{matches, may_start}
use Rattle.kb_rules.specs.declared.rule.Rule.{Rule}
use Rattle.kb_explain.proofs.PressLemmas.{left_out, one_more, over, passed_one}
use Rattle.kb_resolve.proofs.ResolverLemmas.{lowest_passes, lowest_fails}
use Rattle.kb_explain.proofs.press.pass_over.Goals as goal

abbrev value_of : Rc Rule Global → Rule
value_of r = r.value

pub loop-rule-preserved-then-not-begins_with : goal.loop-rule-preserved-then-not-begins_with
loop-rule-preserved-then-not-begins_with c =
    let keys = context c.args.scopes.now.seen in
    let en = enablement_in c.args.enablements.now in
    let strokes = c.args.strokes.now in
    let no : begins_with c.in-Some.rule.now.value.chord strokes ≡ false = search rules in
    let fails : matches keys en strokes c.in-Some.rule.now.value ≡ false =
    ap (λ (b : Bool). b && may_start keys en c.in-Some.rule.now.value) no in
    record {
      taken =
          sym (lowest_fails (matches keys en strokes) value_of _ _ c.in-Some.rule.now c.in-Some.ensures.steps fails)
          ∙ c.loop-rule.invariant.taken;
      passed =
          ap (λ (l : List Rule). map (λ (one : Passed). one.rule.now) c.loop-rule.passed.items ++ l)
          (sym (left_out value_of strokes keys en _ _ c.in-Some.rule.now c.in-Some.ensures.steps no))
          ∙ c.loop-rule.invariant.passed;
      right = c.loop-rule.invariant.right;
    }

pub returns-in_default-clause-taken : goal.returns-in_default-clause-taken
returns-in_default-clause-taken c =
    let keys = context c.args.scopes.now.seen in
    let en = enablement_in c.args.enablements.now in
    let strokes = c.args.strokes.now in
    let yes : begins_with c.in-Some.rule.now.value.chord strokes ≡ true = search rules in
    let may : may_start keys en c.in-Some.rule.now.value ≡ true =
    sym (ap (may_start keys en) c.deref-in-loop-rule.ensures)
    ∙ subst (IsFirstObstacle keys en c.deref-in-loop-rule.result.now) c.in_default.is c.in_ok-obstacle.ensures in
    let passes : matches keys en strokes c.in-Some.rule.now.value ≡ true = λ i. yes i && may i in
    ap Some c.deref-in_default.ensures
    ∙ sym (lowest_passes (matches keys en strokes) value_of _ _ c.in-Some.rule.now c.in-Some.ensures.steps passes)
    ∙ c.loop-rule.invariant.taken

pub loop-rule-preserved : goal.loop-rule-preserved
loop-rule-preserved c =
    let keys = context c.args.scopes.now.seen in
    let en = enablement_in c.args.enablements.now in
    let strokes = c.args.strokes.now in
    let obstacle = subst (IsFirstObstacle keys en c.deref-in-loop-rule.result.now) c.in-Some-2.is
    c.in_ok-obstacle.ensures in
    let yes : begins_with c.in-Some.rule.now.value.chord strokes ≡ true = search rules in
    let may : may_start keys en c.in-Some.rule.now.value ≡ false =
    sym (ap (may_start keys en) c.deref-in-loop-rule.ensures) ∙ obstacle.0 in
    let fails : matches keys en strokes c.in-Some.rule.now.value ≡ false = λ i. yes i && may i in
    let right : IsObstacle keys en c.deref-in-loop-rule-2.result.now c.in-Some-2.obstacle =
    subst (λ (r : Rule). IsObstacle keys en r c.in-Some-2.obstacle)
    (c.deref-in-loop-rule.ensures ∙ sym c.deref-in-loop-rule-2.ensures) obstacle.1 in
    record {
      taken =
          sym (lowest_fails (matches keys en strokes) value_of _ _ c.in-Some.rule.now c.in-Some.ensures.steps fails)
          ∙ c.loop-rule.invariant.taken;
      passed =
          ap (λ (made : List Passed). map (λ (one : Passed). one.rule.now) made
          ++ over value_of strokes keys en (iter_rest (rev_source c.next.new.self))) c.in_ok-push.ensures.items
          ∙ one_more c.loop-rule.passed.items _ _ c.in-Some.rule.now.value c.deref-in-loop-rule-2.ensures
          ∙ ap (λ (l : List Rule). map (λ (one : Passed). one.rule.now) c.loop-rule.passed.items ++ l)
          (sym (passed_one value_of strokes keys en _ _ c.in-Some.rule.now c.in-Some.ensures.steps yes may))
          ∙ c.loop-rule.invariant.passed;
      right = λ h.
          subst (All (IsRightlyPassed keys en)) (sym c.in_ok-push.ensures.items)
          (All-push (IsRightlyPassed keys en) c.loop-rule.passed.items _ (c.loop-rule.invariant.right h) right);
    }
