use Rattle.std.proofs.Common.{◌≡◌, ◌∙◌, ◌+◌, ◌∷◌, List, ap, sym, subst, drop, map}
use Rattle.std.specs.Prelude.{All}
use Rattle.std.proofs.lemmas.List.{drop_more}
use Rattle.std.proofs.lemmas.List.Elements.{All-push}
use Rattle.kb_explain.specs.Overlap.{FollowsFrom, IsNeeded}
use Rattle.kb_explain.specs.declared.cause.Literal.{Literal}
use Rattle.kb_when.specs.Leaf.{marked_of_leaf}
use Rattle.kb_when.specs.Marked as marked
use Rattle.kb_when.specs.Tree.{marked_of, markeds_of}
use Rattle.kb_when.specs.declared.tree.Tree.{Tree}
use Rattle.kb_explain.proofs.OverlapLemmas.{and_follows, or_follows, follows_first, follows_rest, where_ok}
use Rattle.kb_explain.proofs.OverlapLemmas.{atom_seen, and_seen, or_seen}
use Rattle.kb_explain.proofs.overlap.+literals.Goals as goal

pub add_all-loop-tree-preserved : goal.add_all-loop-tree-preserved
add_all-loop-tree-preserved t c = λ clause f o.
    let ts = c.args.trees.now in
    let rest = drop (c.loop-tree.tree-index + 1) ts in
    let e : drop c.loop-tree.tree-index ts ≡ c.tree-item.result ∷ rest =
    drop_more ts c.loop-tree.tree-index c.tree-item.result c.loop-tree-test.true
    ∙ ap (λ (x : Tree). x ∷ rest) (sym c.tree-item.is) in
    let kept = c.loop-tree.invariant clause f o in (
      c.in_ok-add_literals.ensures clause (follows_first clause c.args.wanted _ _ _ e kept.1) kept.0,
      follows_rest clause c.args.wanted _ _ _ e kept.1,
    )

pub add_literals-returns-in_ok-push-in-Atom : goal.add_literals-returns-in_ok-push-in-Atom
add_literals-returns-in_ok-push-in-Atom t c = λ clause f o.
    let m : marked_of c.args.tree.now ≡ marked_of_leaf c.deref.result.now =
    ap marked_of c.in-Atom.is ∙ atom_seen c.in-Atom.atom ∙ ap marked_of_leaf (sym c.deref.ensures) in
    subst (All (IsNeeded clause)) (sym c.in_ok-push-in-Atom.ensures.items)
    (All-push (IsNeeded clause) c.args.literals.now.items _ o (subst (FollowsFrom clause c.args.wanted) m f))

pub add_literals-returns-then-wanted : goal.add_literals-returns-then-wanted
add_literals-returns-then-wanted t c =
    let m : marked_of c.args.tree.now
    ≡ marked.all_of (markeds_of (map marked_of c.deref-then-wanted.result.now)) =
    ap marked_of c.in-And.is ∙ and_seen c.in-And.trees
    ∙ ap (λ (ts : List Tree). marked.all_of (markeds_of (map marked_of ts)))
    (sym c.deref-then-wanted.ensures.value) in
    where_ok c.add_all.result
    (λ given clause f o. given clause
    (and_follows clause c.args.wanted (marked_of c.args.tree.now) c.deref-then-wanted.result.now m c.if-wanted.true f) o)
    c.add_all.ensures

pub add_literals-returns-else-wanted-2 : goal.add_literals-returns-else-wanted-2
add_literals-returns-else-wanted-2 t c =
    let m : marked_of c.args.tree.now
    ≡ marked.any_of (markeds_of (map marked_of c.deref-else-wanted-2.result.now)) =
    ap marked_of c.in-Or.is ∙ or_seen c.in-Or.trees
    ∙ ap (λ (ts : List Tree). marked.any_of (markeds_of (map marked_of ts)))
    (sym c.deref-else-wanted-2.ensures.value) in
    where_ok c.add_all-else-wanted-2.result
    (λ given clause f o. given clause
    (or_follows clause c.args.wanted (marked_of c.args.tree.now) c.deref-else-wanted-2.result.now m c.if-wanted-2.false f)
    o) c.add_all-else-wanted-2.ensures
