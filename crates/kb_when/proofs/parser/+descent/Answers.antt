use Rattle.std.proofs.Common.{arith}
use Rattle.std.proofs.lemmas.Result.{err_from_is_err_and}
use Rattle.kb_when.proofs.DescentLemmas.{all_begin, any_begin, all_on, all_end, any_on, any_end, at_no_and}
use Rattle.kb_when.proofs.DescentLemmas.{at_no_or, empty_no_and, empty_no_or, fails_enclosed}
use Rattle.kb_when.proofs.parser.+descent.Goals as goal

pub conjunction-loop-trees-init : goal.conjunction-loop-trees-init
conjunction-loop-trees-init t c = all_begin _ _ _ c.new-trees.ensures.items

pub disjunction-loop-trees-init : goal.disjunction-loop-trees-init
disjunction-loop-trees-init t c = any_begin _ _ _ c.new-trees.ensures.items

pub enclosed-returns-in_err-tree-clause-err : goal.enclosed-returns-in_err-tree-clause-err
enclosed-returns-in_err-tree-clause-err t c =
    let p = err_from_is_err_and c.from_residual.result c.from_residual.ensures.1 in
    rw (p.1, p.2) (fails_enclosed _ _ _ (omega arith) c.in_err-tree.ensures.err)

pub conjunction-returns-in_default-clause-ok : goal.conjunction-returns-in_default-clause-ok
conjunction-returns-in_default-clause-ok t c =
    all_end _ _ _ _ _ c.in_ok-tree.tree c.in_ok-push.ensures.items _ _ c.joined_by_and.ensures
    c.loop-trees.invariant c.in_ok-tree.ensures.ok (empty_no_and _ c.in_default.ensures)

pub conjunction-loop-trees-preserved : goal.conjunction-loop-trees-preserved
conjunction-loop-trees-preserved t c =
    all_on _ _ _ _ _ c.in_ok-tree.tree c.in_ok-push.ensures.items _ _ _ c.in-Some.ensures c.in-And.is
    c.loop-trees.invariant c.in_ok-tree.ensures.ok

pub conjunction-returns-in_default-first : goal.conjunction-returns-in_default-first
conjunction-returns-in_default-first t c =
    record {
      ok = all_end _ _ _ _ _ c.in_ok-tree.tree c.in_ok-push.ensures.items _ _
          c.joined_by_and-in_default-first.ensures c.loop-trees.invariant c.in_ok-tree.ensures.ok
          (at_no_and _ _ _ c.in-Some.ensures c.in_default-first.not-And);
      err = tt;
    }

pub disjunction-returns-in_default-clause-ok : goal.disjunction-returns-in_default-clause-ok
disjunction-returns-in_default-clause-ok t c =
    any_end _ _ _ _ _ c.in_ok-tree.tree c.in_ok-push.ensures.items _ _ c.joined_by_or.ensures
    c.loop-trees.invariant c.in_ok-tree.ensures.ok (empty_no_or _ c.in_default.ensures)

pub disjunction-loop-trees-preserved : goal.disjunction-loop-trees-preserved
disjunction-loop-trees-preserved t c =
    any_on _ _ _ _ _ c.in_ok-tree.tree c.in_ok-push.ensures.items _ _ _ c.in-Some.ensures c.in-Or.is
    c.loop-trees.invariant c.in_ok-tree.ensures.ok

pub disjunction-returns-in_default-first : goal.disjunction-returns-in_default-first
disjunction-returns-in_default-first t c =
    record {
      ok = any_end _ _ _ _ _ c.in_ok-tree.tree c.in_ok-push.ensures.items _ _
          c.joined_by_or-in_default-first.ensures c.loop-trees.invariant c.in_ok-tree.ensures.ok
          (at_no_or _ _ _ c.in-Some.ensures c.in_default-first.not-Or);
      err = tt;
    }
