use Rattle.std.proofs.Common.{◌≡◌, ◌∙◌, ◌+◌, ◌++◌, ℕ, List, Some, None, ap, arith, drop, map, subst, sym}
use Rattle.std.proofs.lemmas.List.{length-drop, take_rest}
use Rattle.kb_jsonc.specs.Pieces.{string_len}
use Rattle.kb_exchange.specs.declared.members.Before.{Before}
use Rattle.kb_exchange.specs.declared.members.Before.TheVariants as before
use Rattle.kb_places.specs.declared.span.Span.{Span}
use Rattle.kb_exchange.specs.Span.{AreInOrder, span}
use Rattle.kb_exchange.specs.Tokens.{tokens_from}
use Rattle.kb_exchange.specs.Values.{is_named, values_behind}
use Rattle.kb_exchange.proofs.ValuesLemmas.{init, one_more, past_byte, past_end, past_open, past_string, past_value}
use Rattle.kb_exchange.proofs.ValuesLemmas.{wider}
use Rattle.kb_exchange.proofs.members.values_in.Goals as goal

pub loop-at-init : goal.loop-at-init
loop-at-init c = record {
  values = init c.args.text.now _ c.new-found.result.items c.new-found.ensures.items;
  order = subst (AreInOrder 0 0) (sym c.new-found.ensures.items) (omega arith);
  within = omega arith;
}

pub loop-at-preserved-then-text-at-ne34 : goal.loop-at-preserved-then-text-at-ne34
loop-at-preserved-then-text-at-ne34 c =
    let names : List (List ℕ) = map (λ n. n.now) c.args.names.now in
    let tokens = tokens_from (c.loop-at.at + 1) c.args.text.now in
    record {
      values =
          ap (λ (last : Before). c.loop-at.found.items ++ values_behind (is_named c.args.text.now names) last tokens)
          c.behind_byte-before.ensures
          ∙ ap (λ (vs : List Span). c.loop-at.found.items ++ vs)
          (past_byte c.args.text.now names c.loop-at.found.items c.loop-at.before c.loop-at.at c.loop-at-test.true
          c.if-text-at-ne34.true)
          ∙ c.loop-at.invariant.values;
      order = wider 0 c.loop-at.at (c.loop-at.at + 1) c.loop-at.found.items c.loop-at.invariant.order (omega arith);
      within = omega arith;
    }

pub returns-in_default-clause-values : goal.returns-in_default-clause-values
returns-in_default-clause-values c =
    let open_string : string_len (drop (c.loop-at.at + 1) c.args.text.now) ≡ None =
    simp take_rest at (sym c.in_default.ensures.value) in
    past_open c.args.text.now _ c.loop-at.found.items c.loop-at.before c.loop-at.at c.loop-at-test.true
    c.if-text-at-ne34.false open_string
    ∙ c.loop-at.invariant.values

pub returns-in_default-clause-order : goal.returns-in_default-clause-order
returns-in_default-clause-order c =
    wider 0 c.loop-at.at _ c.loop-at.found.items c.loop-at.invariant.order c.loop-at.invariant.within

pub loop-at-preserved-in_ok-push : goal.loop-at-preserved-in_ok-push
loop-at-preserved-in_ok-push c =
    let closed : string_len (drop (c.loop-at.at + 1) c.args.text.now) ≡ Some c.in-Some.count =
    simp take_rest at (sym c.in-Some.ensures.value) in
    let names : List (List ℕ) = map (λ n. n.now) c.args.names.now in
    let end = c.loop-at.at + 1 + c.in-Some.count in
    let last : Before = before.String (span c.loop-at.at end) in
    record {
      values =
          ap (λ (vs : List Span). vs ++ values_behind (is_named c.args.text.now names) last (tokens_from end c.args.text.now))
          c.in_ok-push.ensures.items
          ∙ past_value c.args.text.now names c.loop-at.found.items c.loop-at.before c.loop-at.at c.loop-at-test.true
          c.in-Some.count c.if-text-at-ne34.false closed (sym c.in_ok-is_value.ensures ∙ c.if-branch.true)
          ∙ c.loop-at.invariant.values;
      order = subst (AreInOrder 0 end) (sym c.in_ok-push.ensures.items)
          (one_more 0 c.loop-at.at c.loop-at.found.items (span c.loop-at.at end) c.loop-at.invariant.order
          (omega arith) (omega arith));
      within = omega (arith, length-drop (c.loop-at.at + 1) c.args.text.now, simp take_rest at c.in-Some.ensures.within);
    }

pub loop-at-preserved : goal.loop-at-preserved
loop-at-preserved c =
    let closed : string_len (drop (c.loop-at.at + 1) c.args.text.now) ≡ Some c.in-Some.count =
    simp take_rest at (sym c.in-Some.ensures.value) in
    record {
      values =
          ap (λ (vs : List Span). c.loop-at.found.items ++ vs)
          (past_string c.args.text.now _ c.loop-at.found.items c.loop-at.before c.loop-at.at c.loop-at-test.true
          c.in-Some.count c.if-text-at-ne34.false closed (sym c.in_ok-is_value.ensures ∙ c.if-branch.false))
          ∙ c.loop-at.invariant.values;
      order = wider 0 c.loop-at.at _ c.loop-at.found.items c.loop-at.invariant.order (omega arith);
      within = omega (arith, length-drop (c.loop-at.at + 1) c.args.text.now, simp take_rest at c.in-Some.ensures.within);
    }

pub returns-clause-values : goal.returns-clause-values
returns-clause-values c =
    past_end c.args.text.now _ c.loop-at.found.items c.loop-at.before c.loop-at.at c.loop-at-test.false
    ∙ c.loop-at.invariant.values

pub returns-clause-order : goal.returns-clause-order
returns-clause-order c =
    wider 0 c.loop-at.at _ c.loop-at.found.items c.loop-at.invariant.order c.loop-at.invariant.within
