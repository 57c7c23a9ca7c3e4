use Rattle.std.proofs.Common.{◌≡◌, ◌<◌, Some, slice_get, arith, sym, refl}
use Rattle.std.proofs.lemmas.Option.{slice_get_read}
use Rattle.kb_context.proofs.OutwardLemmas.{at_hit, at_parent, at_none}
use Rattle.kb_context.proofs.ScopesLemmas.{parent_before}
use Rattle.kb_context.proofs.scope_tree.look.Goals as goal
use Rattle.kb_context.proofs.scope_tree.look.Goals.{In-Some-parent}

-- the scope where the search stands
found : (c : In-Some-parent) → slice_get c.args.scopes.now c.loop-value.at ≡ Some c.index-scopes-at.result
found c = slice_get_read _ _ _ _ refl c.loop-value.invariant.inside c.index-scopes-at.is

before : (c : In-Some-parent) → c.in-Some-parent.parent < c.loop-value.at
before c = parent_before c.args.scopes.now c.loop-value.at c.index-scopes-at.result c.in-Some-parent.parent
    c.requires.rooted (found c) c.in-Some-parent.is

pub loop-value-smaller : goal.loop-value-smaller
loop-value-smaller c = before (goal.at.loop-value-smaller c).In-Some-parent

pub loop-value-preserved : goal.loop-value-preserved
loop-value-preserved c =
    let d : In-Some-parent = (goal.at.loop-value-preserved c).In-Some-parent in
    let lt : c.in-Some-parent.parent < c.loop-value.at = before d in
    record {
      inside = omega arith;
      search = at_parent _ _ _ c.loop-value.at c.index-scopes-at.result (found d) _
          (sym c.in_default.ensures) c.in-Some-parent.is lt c.loop-value.invariant.search;
    }

pub returns-in-Some : goal.returns-in-Some
returns-in-Some c = sym
    (at_hit _ _ _ c.loop-value.at c.index-scopes-at.result
    (slice_get_read _ _ _ _ refl c.loop-value.invariant.inside c.index-scopes-at.is) c.in-Some.value.now
    (sym c.in-Some.ensures) c.loop-value.invariant.search)

pub returns-in-None : goal.returns-in-None
returns-in-None c = sym
    (at_none _ _ _ c.loop-value.at c.index-scopes-at.result
    (slice_get_read _ _ _ _ refl c.loop-value.invariant.inside c.index-scopes-at.is)
    (sym c.in_default.ensures) c.in-None.is c.loop-value.invariant.search)
