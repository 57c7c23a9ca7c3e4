use Rattle.std.proofs.Common.{rules, ◌∙◌}
use Rattle.kb_code.proofs.CalleesLemmas.{begun, looked, mark_is, passed}
use Rattle.kb_code.proofs.callees.callees_from.Goals as goal

pub loop-place-init : goal.loop-place-init
loop-place-init c = (
  c.in_ok-reached.ensures.size,
  rw c.new-callees.ensures.items
      (begun c.args.code.now c.args.calls c.in_ok-reached.reached.items c.args.instrs.now c.in_ok-reached.ensures.size
      c.in_ok-reached.ensures.first),
)

pub loop-place-preserved-then-not-index : goal.loop-place-preserved-then-not-index
loop-place-preserved-then-not-index c = (
  c.loop-place.invariant.0,
  c.loop-place.invariant.1
      ∙ passed c.args.code.now c.args.calls c.loop-place.place c.loop-place.reached.items c.args.instrs.now
      c.loop-place.callees.items
      (search rules)
      (mark_is c.loop-place.reached.items c.loop-place.place c.index.result.now _ (search rules)
      c.index.ensures c.if-not-index.true),
)

pub loop-place-preserved : goal.loop-place-preserved
loop-place-preserved c = (
  c.reach_exits.ensures.size ∙ c.loop-place.invariant.0,
  c.loop-place.invariant.1
      ∙ looked c.args.code.now c.args.calls c.loop-place.place c.loop-place.reached.items c.reach_exits.new.reached.items
      c.args.instrs.now
      c.loop-place.callees.items c.add_called.new.callees.items c.of.result
      (search rules) c.loop-place.invariant.0
      (mark_is c.loop-place.reached.items c.loop-place.place c.index.result.now _ (search rules)
      c.index.ensures c.if-not-index.false)
      c.of.ensures c.reach_exits.ensures.reached c.in_ok-add_called.ensures,
)
