use Rattle.std.proofs.Common.{◌<◌, arith, refl}
use Rattle.std.proofs.lemmas.Option.{slice_get_read}
use Rattle.kb_context.proofs.SeatLemmas.{marks_start, marks_parent, marks_end}
use Rattle.kb_context.proofs.ScopesLemmas.{parent_before}
use Rattle.kb_context.proofs.scope_tree.mark.Goals as goal

pub loop-parent-init : goal.loop-parent-init
loop-parent-init c = record {
  inside = c.requires.inside;
  marks = marks_start c.args.scopes.now c.args.from c.args.flat.now c.requires.empty c.requires.inside;
}

pub loop-parent-smaller : goal.loop-parent-smaller
loop-parent-smaller c =
    parent_before c.args.scopes.now c.loop-parent.at c.index-scopes-at.result c.in-Some.parent c.requires.rooted
    (slice_get_read _ _ _ _ refl c.loop-parent.invariant.inside c.index-scopes-at.is) c.in-Some.is

pub loop-parent-preserved : goal.loop-parent-preserved
loop-parent-preserved c =
    let found = slice_get_read _ _ _ _ refl c.loop-parent.invariant.inside c.index-scopes-at.is in
    let lt : c.in-Some.parent < c.loop-parent.at =
    parent_before c.args.scopes.now c.loop-parent.at c.index-scopes-at.result c.in-Some.parent
    c.requires.rooted found c.in-Some.is in
    record {
      inside = omega arith;
      marks = marks_parent c.args.scopes.now c.loop-parent.at c.index-scopes-at.result found _
          c.loop-parent.flat c.fill.new.other c.in_ok-fill.ensures c.in-Some.parent c.in-Some.is lt
          c.loop-parent.invariant.marks;
    }

pub returns-in-None : goal.returns-in-None
returns-in-None c =
    marks_end c.args.scopes.now c.loop-parent.at c.index-scopes-at.result
    (slice_get_read _ _ _ _ refl c.loop-parent.invariant.inside c.index-scopes-at.is) _
    c.loop-parent.flat c.fill.new.other c.in_ok-fill.ensures c.in-None.is c.loop-parent.invariant.marks
