use Rattle.std.proofs.Common.{rules, ◌≡◌, ◌+◌, ◌∷◌, [], drop, sym, ap, ◌∙◌, subst, List, Option, Some, length, ◌≤◌}
use Rattle.std.specs.Prelude.{option_map}
use Rattle.std.proofs.Math.ListN.{drop_of_length-le}
use Rattle.std.proofs.lemmas.List.{drop_more}
use Rattle.kb_explain.specs.Cause.{cause_data, shown}
use Rattle.kb_context.specs.Scopes.{context}
use Rattle.kb_explain.specs.Palette.{IsCauseOfItems, IsItemCause}
use Rattle.kb_explain.proofs.PaletteLemmas.{all_causes, one_cause_more}
use Rattle.kb_when.specs.Marks.{MarkedClause}
use Rattle.kb_explain.proofs.palette.cause_of_items.Goals as goal

pub loop-item-preserved : goal.loop-item-preserved
loop-item-preserved c =
    let keys = context c.args.scopes.now.seen in
    let items = c.args.items.now in
    let index = c.loop-item.item-index in
    let item = c.item-item.result in
    let there : drop index items ≡ item ∷ drop (index + 1) items =
    drop_more items index item c.loop-item-test.true
    ∙ ap (λ (x : Option MarkedClause). x ∷ drop (index + 1) items) (sym c.item-item.is) in
    let cause : IsItemCause keys item (Some c.in-Some.cause) = search rules in
    let shows : option_map cause_data c.first_shown-first.result
    ≡ shown (option_map cause_data c.loop-item.first) (Some (cause_data c.in-Some.cause)) = search rules in
    record {
      cause = one_cause_more keys items item (drop (index + 1) items) (option_map cause_data c.loop-item.first)
          (cause_data c.in-Some.cause) (option_map cause_data c.first_shown-first.result)
          (λ e behind. c.loop-item.invariant.cause e
          (subst (λ (left : List (Option MarkedClause)). IsCauseOfItems keys left e) (sym there) behind))
          cause.1 shows;
      holds = search rules;
    }

pub returns-clause-cause : goal.returns-clause-cause
returns-clause-cause c =
    let keys = context c.args.scopes.now.seen in
    let items = c.args.items.now in
    let past : length items ≤ c.loop-item.item-index = search rules in
    let none : drop c.loop-item.item-index items ≡ [] = drop_of_length-le items past in
    all_causes keys items c.loop-item.first c.unwrap_or.result
    (λ e behind. c.loop-item.invariant.cause e
    (subst (λ (left : List (Option MarkedClause)). IsCauseOfItems keys left e) (sym none) behind))
    (search rules)
