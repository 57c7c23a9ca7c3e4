use Rattle.std.proofs.Common.{◌≡◌, ◌∙◌, ◌+◌, ◌∷◌, ap, sym, drop}
use Rattle.std.proofs.lemmas.List.{drop_more}
use Rattle.kb_when.specs.declared.tree.Tree.{Tree}
use Rattle.kb_when.proofs.UnreadLemmas.{noted_next, right_next}
use Rattle.kb_when.proofs.tree.Tree.+noting.Goals as goal

pub note_trees-loop-tree-preserved : goal.note_trees-loop-tree-preserved
note_trees-loop-tree-preserved t c =
    let ts = c.args.trees.now in
    let rest = drop (c.loop-tree.tree-index + 1) ts in
    let e : drop c.loop-tree.tree-index ts ≡ c.tree-item.result ∷ rest =
    drop_more ts c.loop-tree.tree-index c.tree-item.result c.loop-tree-test.true
    ∙ ap (λ (x : Tree). x ∷ rest) (sym c.tree-item.is) in (
      noted_next _ _ _ e _ _ _ c.in_ok-note_patterns.ensures.noted c.loop-tree.invariant.0,
      λ h. c.loop-tree.invariant.1 (right_next _ _ _ e c.in_ok-note_patterns.ensures.right h),
    )
