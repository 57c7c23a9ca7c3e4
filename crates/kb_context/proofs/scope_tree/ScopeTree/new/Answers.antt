use Rattle.std.proofs.Common.{◌≡◌, ◌≤◌, List, [], length, Some, None, cond, nat_lt, sym, subst, ap, ◌∙◌}
use Rattle.std.proofs.Common.{zero-add, arith, rules}
use Rattle.std.proofs.lemmas.Result.{err_from_is_err_and}
use Rattle.kb_context.specs.declared.layout.LayoutScope.{LayoutScope}
use Rattle.kb_context.specs.Scopes.{key_limit}
use Rattle.kb_context.specs.Layout.{scope_limit}
use Rattle.kb_context.specs.Scopes.{place_of}
use Rattle.kb_context.specs.Layout.{layout_key_count}
use Rattle.kb_context.specs.Draft.{built, IsBadList}
use Rattle.kb_context.proofs.DraftLemmas.{key_count-built, counted}
use Rattle.kb_context.proofs.ScopesLemmas.{placed_within}
use Rattle.kb_context.proofs.LayoutLemmas.{bad_focus, refused_scopes, too_many, no_fault, scopes_of_built}
use Rattle.kb_context.proofs.scope_tree.ScopeTree.new.Goals as goal
use Rattle.kb_context.proofs.scope_tree.ScopeTree.new.Goals.{In_ok-scopes, In-Some}

-- the scopes that were built
built_from : (c : In_ok-scopes) → built [] c.args.layout.scopes ≡ Some c.in_ok-scopes.field-0
built_from c = ap (built []) (sym c.into_vec-scopes.ensures) ∙ c.in_ok-scopes.ensures.ok

few : (c : In_ok-scopes) → length c.args.layout.scopes ≤ scope_limit
few c =
    let same : c.len.result ≡ length c.into_vec-scopes.result.items = search rules in
    let limit : c.len.result ≤ 1000 = c.if-len-gt-SCOPE_LIMIT.false in
    subst (λ (ps : List LayoutScope). length ps ≤ 1000) c.into_vec-scopes.ensures (omega arith)

pub returns-in_err-scopes-clause-err : goal.returns-in_err-scopes-clause-err
returns-in_err-scopes-clause-err c =
    let p = err_from_is_err_and c.from_residual.result c.from_residual.ensures.1 in
    rw (p.1, p.2) (refused_scopes c.args.layout c.in_err-scopes.field-0.0
    (subst (λ (ps : List LayoutScope). IsBadList ps c.in_err-scopes.field-0.0) c.into_vec-scopes.ensures
    c.in_err-scopes.ensures.err))

pub returns-in_default-clause-err : goal.returns-in_default-clause-err
returns-in_default-clause-err c =
    let place : place_of c.args.layout.focus c.scopes.inside.scopes.items ≡ None =
    ap (λ n. place_of n c.scopes.inside.scopes.items) (sym c.as_str.ensures)
    ∙ sym (c.scopes.invariant.placed c.as_str.result.now) ∙ sym c.in_default.ensures in
    bad_focus c.args.layout c.scopes.inside.scopes.items
    (built_from (goal.at.returns-in_default-clause-err c).In_ok-scopes ∙ ap Some (sym c.scopes.view_is))
    place

-- the place of the focus
focused : (c : In-Some)
    → place_of c.args.layout.focus c.scopes.inside.scopes.items ≡ Some c.in-Some.field-0.now
focused c = ap (λ n. place_of n c.scopes.inside.scopes.items) (sym c.as_str.ensures)
    ∙ sym (c.scopes.invariant.placed c.as_str.result.now) ∙ sym c.in-Some.ensures

pub returns-in_default-count-clause-err : goal.returns-in_default-count-clause-err
returns-in_default-count-clause-err c =
    let d : In_ok-scopes = (goal.at.returns-in_default-count-clause-err c).In_ok-scopes in
    too_many c.args.layout c.scopes.inside.scopes.items _ c.deref.result.now (few d)
    (built_from d ∙ ap Some (sym c.scopes.view_is))
    (focused (goal.at.returns-in_default-count-clause-err c).In-Some)
    (c.deref.ensures.value ∙ c.into_vec-scopes.ensures) c.in_default-count.ensures

pub invariant_of-result : goal.invariant_of-result
invariant_of-result c =
    let h = counted key_limit (layout_key_count c.into_vec-scopes.result.items) c.in-Some-count.keys
    (c.in-Some-count.ensures
    ∙ ap (λ (ps : List LayoutScope). cond (nat_lt key_limit (layout_key_count ps)) None
    (Some (layout_key_count ps))) c.deref.ensures.value) in
    record {
      inside = placed_within c.as_str.result.now c.scopes.inside.scopes.items c.scopes.inside.places _
          (c.scopes.invariant.placed c.as_str.result.now) c.in-Some.ensures;
      rooted = c.scopes.invariant.rooted;
      placed = c.scopes.invariant.placed;
      counted = h.0 ∙ sym (key_count-built [] c.into_vec-scopes.result.items c.scopes.inside.scopes.items
          (c.in_ok-scopes.ensures.ok ∙ ap Some (sym c.scopes.view_is)) ∙ zero-add _);
      few = h.1;
    }

pub returns-clause-good : goal.returns-clause-good
returns-clause-good c =
    let d : In_ok-scopes = (goal.at.returns-clause-good c).In_ok-scopes in
    no_fault c.args.layout c.scopes.inside.scopes.items _ c.deref.result.now _ (few d)
    (built_from d ∙ ap Some (sym c.scopes.view_is))
    (focused (goal.at.returns-clause-good c).In-Some)
    (c.deref.ensures.value ∙ c.into_vec-scopes.ensures) c.in-Some-count.ensures

pub returns-clause-ok : goal.returns-clause-ok
returns-clause-ok c =
    scopes_of_built c.args.layout c.scopes.inside.scopes.items _
    (built_from (goal.at.returns-clause-ok c).In_ok-scopes ∙ ap Some (sym c.scopes.view_is))
    (focused (goal.at.returns-clause-ok c).In-Some)
