use Rattle.std.proofs.Common.{◌≡◌, ◌∙◌, ◌<◌, ◌+◌, ◌^◌, sym, ap, subst, arith, rules}
use Rattle.kb_code.specs.Blocks.{IsFormed, Closes}
use Rattle.std.specs.Prelude.{slice_index}
use Rattle.kb_code.specs.declared.exits.Exits.TheVariants.{Stop, One, Two, Around, Close}
use Rattle.kb_verify.proofs.Edges.{reach_within}
use Rattle.kb_verify.proofs.Routes.{IsRouted, routed_start, routed_one, routed_jump, routed_fall, routed_turn}
use Rattle.kb_verify.proofs.Routes.{routed_stop, routed_close, has_block, read_exits}
use Rattle.kb_verify.proofs.route.+dearest_path.Goals as goal

pub walk-init : goal.walk-init
walk-init t c =
    let commands = c.args.callable.now in let h = c.args.handler.now in let costs = c.args.costs.now in
    let fits : slice_index costs c.args.start < 2 ^ 64 = omega (arith, c.type_inv.costs c.args.start) in
    let same : c.code.result.now ≡ h.code = search rules in
    let formed = subst IsFormed same c.instrs-instrs.ensures.formed in let shapes = c.requires.shapes in
    record {
      later = omega arith;
      routed = subst (IsRouted commands h costs c.args.start c.args.start) (sym c.new-steps.ensures.items)
          (routed_start commands h formed shapes.0 shapes.1 costs c.requires.costs c.args.start c.requires.reached fits);
    }

pub returns-in-Stop : goal.returns-in-Stop
returns-in-Stop t c =
    let commands = c.args.callable.now in let h = c.args.handler.now in let costs = c.args.costs.now in let p = c.walk.place in
    let same : c.code.result.now ≡ h.code = search rules in
    let formed = subst IsFormed same c.instrs-instrs.ensures.formed in let shapes = c.requires.shapes in
    let e = read_exits h.code c.instrs-instrs.result.now p c.exits_at.result Stop (c.instrs-instrs.ensures.same ∙ same) c.exits_at.ensures c.in-Stop.is in
    routed_stop commands h formed shapes.0 shapes.1 costs c.requires.costs c.args.start p c.walk.steps.items e c.walk.invariant.routed

pub returns-in-Close : goal.returns-in-Close
returns-in-Close t c =
    let commands = c.args.callable.now in let h = c.args.handler.now in let costs = c.args.costs.now in let p = c.walk.place in
    let same : c.code.result.now ≡ h.code = search rules in
    let formed = subst IsFormed same c.instrs-instrs.ensures.formed in let shapes = c.requires.shapes in
    let e = read_exits h.code c.instrs-instrs.result.now p c.exits_at.result (Close c.in-Close._past) (c.instrs-instrs.ensures.same ∙ same) c.exits_at.ensures c.in-Close.is in
    routed_close commands h formed shapes.0 shapes.1 costs c.requires.costs c.args.start p c.in-Close._past c.walk.steps.items e c.walk.invariant.routed

pub walk-smaller-in-One : goal.walk-smaller-in-One
walk-smaller-in-One t c =
    let commands = c.args.callable.now in let h = c.args.handler.now in let costs = c.args.costs.now in let p = c.walk.place in
    let same : c.code.result.now ≡ h.code = search rules in
    let formed = subst IsFormed same c.instrs-instrs.ensures.formed in let shapes = c.requires.shapes in
    let e = read_exits h.code c.instrs-instrs.result.now p c.exits_at.result (One c.in-One.next) (c.instrs-instrs.ensures.same ∙ same) c.exits_at.ensures c.in-One.is in
    let w = routed_one commands h formed shapes.0 shapes.1 costs c.requires.costs c.args.start p c.in-One.next c.walk.steps.items e c.walk.invariant.routed in
    let in_code = reach_within h.code p c.walk.invariant.routed.here in
    omega (arith, w.0, in_code)

pub walk-preserved-in-One : goal.walk-preserved-in-One
walk-preserved-in-One t c =
    let commands = c.args.callable.now in let h = c.args.handler.now in let costs = c.args.costs.now in let p = c.walk.place in
    let same : c.code.result.now ≡ h.code = search rules in
    let formed = subst IsFormed same c.instrs-instrs.ensures.formed in let shapes = c.requires.shapes in
    let e = read_exits h.code c.instrs-instrs.result.now p c.exits_at.result (One c.in-One.next) (c.instrs-instrs.ensures.same ∙ same) c.exits_at.ensures c.in-One.is in
    let w = routed_one commands h formed shapes.0 shapes.1 costs c.requires.costs c.args.start p c.in-One.next c.walk.steps.items e c.walk.invariant.routed in
    let l = c.walk.invariant.later in
    record { later = omega (arith, w.0, l); routed = w.1 }

pub walk-preserved-then-jumps : goal.walk-preserved-then-jumps
walk-preserved-then-jumps t c =
    let commands = c.args.callable.now in let h = c.args.handler.now in let costs = c.args.costs.now in let p = c.walk.place in
    let same : c.code.result.now ≡ h.code = search rules in
    let formed = subst IsFormed same c.instrs-instrs.ensures.formed in let shapes = c.requires.shapes in
    let e = read_exits h.code c.instrs-instrs.result.now p c.exits_at.result (Two c.in-Two.next c.in-Two.target) (c.instrs-instrs.ensures.same ∙ same) c.exits_at.ensures c.in-Two.is in
    let w = routed_jump commands h formed shapes.0 shapes.1 costs c.requires.costs c.args.start p c.in-Two.next c.in-Two.target c.cost_from.result c.cost_from-in-Two.result c.walk.steps.items c.push.new.self.items e c.cost_from.ensures c.cost_from-in-Two.ensures c.in_ok-push-in-Two.ensures.items c.if-jumps.true c.walk.invariant.routed in
    let l = c.walk.invariant.later in
    record { later = omega (arith, w.0, l); routed = w.1 }

pub walk-smaller-then-jumps : goal.walk-smaller-then-jumps
walk-smaller-then-jumps t c =
    let commands = c.args.callable.now in let h = c.args.handler.now in let costs = c.args.costs.now in let p = c.walk.place in
    let same : c.code.result.now ≡ h.code = search rules in
    let formed = subst IsFormed same c.instrs-instrs.ensures.formed in let shapes = c.requires.shapes in
    let e = read_exits h.code c.instrs-instrs.result.now p c.exits_at.result (Two c.in-Two.next c.in-Two.target) (c.instrs-instrs.ensures.same ∙ same) c.exits_at.ensures c.in-Two.is in
    let w = routed_jump commands h formed shapes.0 shapes.1 costs c.requires.costs c.args.start p c.in-Two.next c.in-Two.target c.cost_from.result c.cost_from-in-Two.result c.walk.steps.items c.push.new.self.items e c.cost_from.ensures c.cost_from-in-Two.ensures c.in_ok-push-in-Two.ensures.items c.if-jumps.true c.walk.invariant.routed in
    let in_code = reach_within h.code p c.walk.invariant.routed.here in
    omega (arith, w.0, in_code)

pub walk-preserved-else-jumps : goal.walk-preserved-else-jumps
walk-preserved-else-jumps t c =
    let commands = c.args.callable.now in let h = c.args.handler.now in let costs = c.args.costs.now in let p = c.walk.place in
    let same : c.code.result.now ≡ h.code = search rules in
    let formed = subst IsFormed same c.instrs-instrs.ensures.formed in let shapes = c.requires.shapes in
    let e = read_exits h.code c.instrs-instrs.result.now p c.exits_at.result (Two c.in-Two.next c.in-Two.target) (c.instrs-instrs.ensures.same ∙ same) c.exits_at.ensures c.in-Two.is in
    let w = routed_fall commands h formed shapes.0 shapes.1 costs c.requires.costs c.args.start p c.in-Two.next c.in-Two.target c.cost_from.result c.cost_from-in-Two.result c.walk.steps.items c.push.new.self.items e c.cost_from.ensures c.cost_from-in-Two.ensures c.in_ok-push-in-Two.ensures.items c.if-jumps.false c.walk.invariant.routed in
    let l = c.walk.invariant.later in
    record { later = omega (arith, w.0, l); routed = w.1 }

pub walk-smaller-else-jumps : goal.walk-smaller-else-jumps
walk-smaller-else-jumps t c =
    let commands = c.args.callable.now in let h = c.args.handler.now in let costs = c.args.costs.now in let p = c.walk.place in
    let same : c.code.result.now ≡ h.code = search rules in
    let formed = subst IsFormed same c.instrs-instrs.ensures.formed in let shapes = c.requires.shapes in
    let e = read_exits h.code c.instrs-instrs.result.now p c.exits_at.result (Two c.in-Two.next c.in-Two.target) (c.instrs-instrs.ensures.same ∙ same) c.exits_at.ensures c.in-Two.is in
    let w = routed_fall commands h formed shapes.0 shapes.1 costs c.requires.costs c.args.start p c.in-Two.next c.in-Two.target c.cost_from.result c.cost_from-in-Two.result c.walk.steps.items c.push.new.self.items e c.cost_from.ensures c.cost_from-in-Two.ensures c.in_ok-push-in-Two.ensures.items c.if-jumps.false c.walk.invariant.routed in
    let in_code = reach_within h.code p c.walk.invariant.routed.here in
    omega (arith, w.0, in_code)

pub dearest_path-requires : goal.dearest_path-requires
dearest_path-requires t c =
    let commands = c.args.callable.now in let h = c.args.handler.now in let costs = c.args.costs.now in let p = c.walk.place in
    let same : c.code.result.now ≡ h.code = search rules in
    let formed = subst IsFormed same c.instrs-instrs.ensures.formed in let shapes = c.requires.shapes in
    let e = read_exits h.code c.instrs-instrs.result.now p c.exits_at.result (Around c.in-Around._turns c.in-Around.inner) (c.instrs-instrs.ensures.same ∙ same) c.exits_at.ensures c.in-Around.is in
    let b = has_block commands h formed shapes.0 shapes.1 costs c.requires.costs c.args.start p c.in-Around._turns c.in-Around.inner c.walk.invariant.routed.here e in
    let in_code = reach_within h.code p c.walk.invariant.routed.here in
    let l = c.walk.invariant.later in let later = b.later in
    (let d = c.decreases in omega (arith, later, in_code, l, d), (b.inner, (shapes, c.requires.costs)))

pub overflow_add-place : goal.overflow_add-place
overflow_add-place t c =
    let commands = c.args.callable.now in let h = c.args.handler.now in let costs = c.args.costs.now in let p = c.walk.place in
    let same : c.code.result.now ≡ h.code = search rules in
    let formed = subst IsFormed same c.instrs-instrs.ensures.formed in let shapes = c.requires.shapes in
    let e = read_exits h.code c.instrs-instrs.result.now p c.exits_at.result (Around c.in-Around._turns c.in-Around.inner) (c.instrs-instrs.ensures.same ∙ same) c.exits_at.ensures c.in-Around.is in
    let b = has_block commands h formed shapes.0 shapes.1 costs c.requires.costs c.args.start p c.in-Around._turns c.in-Around.inner c.walk.invariant.routed.here e in
    let past = reach_within h.code (b.end + 1) b.past in
    let read : c.code-in-Around.result.now ≡ h.code = search rules in
    let is = c.end-end.ensures b.end (subst (λ xs. Closes xs p b.end) (sym read) b.closes) in
    let size = c.requires.costs.size in
    omega (arith, past, is, size)

pub walk-smaller : goal.walk-smaller
walk-smaller t c =
    let commands = c.args.callable.now in let h = c.args.handler.now in let costs = c.args.costs.now in let p = c.walk.place in
    let same : c.code.result.now ≡ h.code = search rules in
    let formed = subst IsFormed same c.instrs-instrs.ensures.formed in let shapes = c.requires.shapes in
    let e = read_exits h.code c.instrs-instrs.result.now p c.exits_at.result (Around c.in-Around._turns c.in-Around.inner) (c.instrs-instrs.ensures.same ∙ same) c.exits_at.ensures c.in-Around.is in
    let b = has_block commands h formed shapes.0 shapes.1 costs c.requires.costs c.args.start p c.in-Around._turns c.in-Around.inner c.walk.invariant.routed.here e in
    let read : c.code-in-Around.result.now ≡ h.code = search rules in
    let is = c.end-end.ensures b.end (subst (λ xs. Closes xs p b.end) (sym read) b.closes) in
    let in_code = reach_within h.code p c.walk.invariant.routed.here in
    let after = b.after in
    omega (arith, is, after, in_code)

pub walk-preserved : goal.walk-preserved
walk-preserved t c =
    let commands = c.args.callable.now in let h = c.args.handler.now in let costs = c.args.costs.now in let p = c.walk.place in
    let same : c.code.result.now ≡ h.code = search rules in
    let formed = subst IsFormed same c.instrs-instrs.ensures.formed in let shapes = c.requires.shapes in
    let e = read_exits h.code c.instrs-instrs.result.now p c.exits_at.result (Around c.in-Around._turns c.in-Around.inner) (c.instrs-instrs.ensures.same ∙ same) c.exits_at.ensures c.in-Around.is in
    let b = has_block commands h formed shapes.0 shapes.1 costs c.requires.costs c.args.start p c.in-Around._turns c.in-Around.inner c.walk.invariant.routed.here e in
    let read : c.code-in-Around.result.now ≡ h.code = search rules in
    let is = c.end-end.ensures b.end (subst (λ xs. Closes xs p b.end) (sym read) b.closes) in
    let w = routed_turn commands h formed shapes.0 shapes.1 costs c.requires.costs c.args.start p c.in-Around._turns c.in-Around.inner b.end c.walk.steps.items c.push-in-Around.new.self.items c.in_ok-turn-in-Around.turn e b.closes c.in_ok-turn-in-Around.ensures c.in_ok-push-in-Around.ensures.items c.walk.invariant.routed in
    let l = c.walk.invariant.later in
    record {
      later = omega (arith, w.0, l, is);
      routed = subst (λ r. IsRouted commands h costs c.args.start (r + 1) c.push-in-Around.new.self.items) (sym is) w.1;
    }
