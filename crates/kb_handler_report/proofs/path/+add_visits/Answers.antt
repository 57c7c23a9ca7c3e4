use Rattle.std.proofs.Common.{◌≡◌, ◌∙◌, ◌<◌, ◌+◌, ◌*◌, suc, ap, sym, subst, arith, rules, get_or, length}
use Rattle.kb_code.specs.Blocks.{Closes}
use Rattle.kb_code.specs.Exits.{exits_of}
use Rattle.kb_code.specs.declared.instr.Instr.TheVariants.{Return}
use Rattle.kb_verify.specs.Costs.{capped}
use Rattle.kb_verify.specs.Paths.{Path}
use Rattle.kb_verify.specs.Route.{route_of}
use Rattle.kb_handler_report.proofs.WalkLemmas.{at_place, path_within, way_start, way_stop, way_close, way_one, way_two}
use Rattle.kb_handler_report.proofs.WalkLemmas.{way_block, way_around, with_visit}
use Rattle.kb_handler_report.proofs.path.+add_visits.Goals as goal

pub walk-init : goal.walk-init
walk-init t c = way_start c.args.callable.now c.args.handler.now c.args.times c.args.start (route_of c.args.path.now) c.args.visits.now.items 0 c.args.visits.now.items (omega arith) (search rules)

pub offset_bounds-instrs-place : goal.offset_bounds-instrs-place
offset_bounds-instrs-place t c =
    let commands = c.args.callable.now in let h = c.args.handler.now in let p = c.walk.place in
    let left = route_of c.walk.left.now in let way = c.walk.invariant.each c.requires.0 c.requires.1 in
    let same : c.code.result.now ≡ h.code = search rules in
    let within : p < length h.code = path_within commands h c.args.times p left way.rest way.on in
    let size : length c.instrs-instrs.result.now ≡ length h.code = ap length (c.instrs-instrs.ensures.same ∙ same) in
    let fits = c.instrs-instrs.type_inv in
    omega (arith, within, size, fits)

pub bounds-instrs-place : goal.bounds-instrs-place
bounds-instrs-place t c =
    let commands = c.args.callable.now in let h = c.args.handler.now in let p = c.walk.place in
    let left = route_of c.walk.left.now in let way = c.walk.invariant.each c.requires.0 c.requires.1 in
    let same : c.code.result.now ≡ h.code = search rules in
    let within : p < length h.code = path_within commands h c.args.times p left way.rest way.on in
    let size : length c.instrs-instrs.result.now ≡ length h.code = ap length (c.instrs-instrs.ensures.same ∙ same) in
    omega (arith, within, size)

pub overflow_add-place : goal.overflow_add-place
overflow_add-place t c =
    let commands = c.args.callable.now in let h = c.args.handler.now in let p = c.walk.place in
    let left = route_of c.walk.left.now in let way = c.walk.invariant.each c.requires.0 c.requires.1 in
    let same : c.code.result.now ≡ h.code = search rules in
    let within : p < length h.code = path_within commands h c.args.times p left way.rest way.on in
    let size : length c.instrs-instrs.result.now ≡ length h.code = ap length (c.instrs-instrs.ensures.same ∙ same) in
    omega (arith, within, size)

pub returns-in-Stop : goal.returns-in-Stop
returns-in-Stop t c =
    let commands = c.args.callable.now in let h = c.args.handler.now in let p = c.walk.place in
    let left = route_of c.walk.left.now in let way = c.walk.invariant.each c.requires.0 c.requires.1 in
    let same : c.code.result.now ≡ h.code = search rules in
    let within : p < length h.code = path_within commands h c.args.times p left way.rest way.on in
    let i = get_or c.instrs-instrs.result.now p Return in
    let at = at_place h.code c.instrs-instrs.result.now p (c.instrs-instrs.ensures.same ∙ same) within in
    let next : p + 1 ≡ suc p = omega arith in
    let told = c.in_ok-push.ensures.items ∙ ap (with_visit c.walk.visits.items c.args.times p i) c.instr_cost-cost.ensures in
    way_stop commands h c.args.times c.args.start (route_of c.args.path.now) c.args.visits.now.items p left c.walk.visits.items c.push.new.self.items c.walk.spent c.instr_cost-cost.result i c.walk.invariant at told c.instr_cost-cost.ensures c.saturating_add.result (c.in-Stop.ensures ∙ ap (λ n. exits_of n i) next) (let s = c.saturating_add.ensures in omega (arith, s))

pub returns-in-Close : goal.returns-in-Close
returns-in-Close t c =
    let commands = c.args.callable.now in let h = c.args.handler.now in let p = c.walk.place in
    let left = route_of c.walk.left.now in let way = c.walk.invariant.each c.requires.0 c.requires.1 in
    let same : c.code.result.now ≡ h.code = search rules in
    let within : p < length h.code = path_within commands h c.args.times p left way.rest way.on in
    let i = get_or c.instrs-instrs.result.now p Return in
    let at = at_place h.code c.instrs-instrs.result.now p (c.instrs-instrs.ensures.same ∙ same) within in
    let next : p + 1 ≡ suc p = omega arith in
    let told = c.in_ok-push.ensures.items ∙ ap (with_visit c.walk.visits.items c.args.times p i) c.instr_cost-cost.ensures in
    way_close commands h c.args.times c.args.start (route_of c.args.path.now) c.args.visits.now.items p left c.walk.visits.items c.push.new.self.items c.walk.spent c.instr_cost-cost.result i c.walk.invariant at told c.instr_cost-cost.ensures c.in-Close._past (c.in-Close.ensures ∙ ap (λ n. exits_of n i) next)

pub walk-smaller-in-One : goal.walk-smaller-in-One
walk-smaller-in-One t c =
    let commands = c.args.callable.now in let h = c.args.handler.now in let p = c.walk.place in
    let left = route_of c.walk.left.now in let way = c.walk.invariant.each c.requires.0 c.requires.1 in
    let same : c.code.result.now ≡ h.code = search rules in
    let within : p < length h.code = path_within commands h c.args.times p left way.rest way.on in
    let i = get_or c.instrs-instrs.result.now p Return in
    let at = at_place h.code c.instrs-instrs.result.now p (c.instrs-instrs.ensures.same ∙ same) within in
    let next : p + 1 ≡ suc p = omega arith in
    let told = c.in_ok-push.ensures.items ∙ ap (with_visit c.walk.visits.items c.args.times p i) c.instr_cost-cost.ensures in
    let on = way_one commands h c.args.times c.args.start (route_of c.args.path.now) c.args.visits.now.items p left c.walk.visits.items c.push.new.self.items c.walk.spent c.instr_cost-cost.result i c.walk.invariant at told c.instr_cost-cost.ensures c.in-One.next c.saturating_add-spent.result c.requires (c.in-One.ensures ∙ ap (λ n. exits_of n i) next) (let s = c.saturating_add-spent.ensures in omega (arith, s)) in
    let l = on.0 in omega (arith, l, within)

pub walk-preserved-in-One : goal.walk-preserved-in-One
walk-preserved-in-One t c =
    let commands = c.args.callable.now in let h = c.args.handler.now in let p = c.walk.place in
    let left = route_of c.walk.left.now in let way = c.walk.invariant.each c.requires.0 c.requires.1 in
    let same : c.code.result.now ≡ h.code = search rules in
    let within : p < length h.code = path_within commands h c.args.times p left way.rest way.on in
    let i = get_or c.instrs-instrs.result.now p Return in
    let at = at_place h.code c.instrs-instrs.result.now p (c.instrs-instrs.ensures.same ∙ same) within in
    let next : p + 1 ≡ suc p = omega arith in
    let told = c.in_ok-push.ensures.items ∙ ap (with_visit c.walk.visits.items c.args.times p i) c.instr_cost-cost.ensures in
    let on = way_one commands h c.args.times c.args.start (route_of c.args.path.now) c.args.visits.now.items p left c.walk.visits.items c.push.new.self.items c.walk.spent c.instr_cost-cost.result i c.walk.invariant at told c.instr_cost-cost.ensures c.in-One.next c.saturating_add-spent.result c.requires (c.in-One.ensures ∙ ap (λ n. exits_of n i) next) (let s = c.saturating_add-spent.ensures in omega (arith, s)) in
    on.1

pub walk-smaller-in-Two : goal.walk-smaller-in-Two
walk-smaller-in-Two t c =
    let commands = c.args.callable.now in let h = c.args.handler.now in let p = c.walk.place in
    let left = route_of c.walk.left.now in let way = c.walk.invariant.each c.requires.0 c.requires.1 in
    let same : c.code.result.now ≡ h.code = search rules in
    let within : p < length h.code = path_within commands h c.args.times p left way.rest way.on in
    let i = get_or c.instrs-instrs.result.now p Return in
    let at = at_place h.code c.instrs-instrs.result.now p (c.instrs-instrs.ensures.same ∙ same) within in
    let next : p + 1 ≡ suc p = omega arith in
    let told = c.in_ok-push.ensures.items ∙ ap (with_visit c.walk.visits.items c.args.times p i) c.instr_cost-cost.ensures in
    let on = way_two commands h c.args.times c.args.start (route_of c.args.path.now) c.args.visits.now.items p left c.walk.visits.items c.push.new.self.items c.walk.spent c.instr_cost-cost.result i c.walk.invariant at told c.instr_cost-cost.ensures c.in-Two.next c.in-Two.target c.branch-to.result.0 c.saturating_add-spent-in-Two.result (route_of c.branch-to.result.1.now) c.requires (c.in-Two.ensures ∙ ap (λ n. exits_of n i) next) (let s = c.saturating_add-spent-in-Two.ensures in omega (arith, s)) c.branch-to.ensures.place c.branch-to.ensures.rest in
    let l = on.0 in omega (arith, l, within)

pub walk-preserved-in-Two : goal.walk-preserved-in-Two
walk-preserved-in-Two t c =
    let commands = c.args.callable.now in let h = c.args.handler.now in let p = c.walk.place in
    let left = route_of c.walk.left.now in let way = c.walk.invariant.each c.requires.0 c.requires.1 in
    let same : c.code.result.now ≡ h.code = search rules in
    let within : p < length h.code = path_within commands h c.args.times p left way.rest way.on in
    let i = get_or c.instrs-instrs.result.now p Return in
    let at = at_place h.code c.instrs-instrs.result.now p (c.instrs-instrs.ensures.same ∙ same) within in
    let next : p + 1 ≡ suc p = omega arith in
    let told = c.in_ok-push.ensures.items ∙ ap (with_visit c.walk.visits.items c.args.times p i) c.instr_cost-cost.ensures in
    let on = way_two commands h c.args.times c.args.start (route_of c.args.path.now) c.args.visits.now.items p left c.walk.visits.items c.push.new.self.items c.walk.spent c.instr_cost-cost.result i c.walk.invariant at told c.instr_cost-cost.ensures c.in-Two.next c.in-Two.target c.branch-to.result.0 c.saturating_add-spent-in-Two.result (route_of c.branch-to.result.1.now) c.requires (c.in-Two.ensures ∙ ap (λ n. exits_of n i) next) (let s = c.saturating_add-spent-in-Two.ensures in omega (arith, s)) c.branch-to.ensures.place c.branch-to.ensures.rest in
    on.1

pub add_visits-requires : goal.add_visits-requires
add_visits-requires t c =
    let commands = c.args.callable.now in let h = c.args.handler.now in let p = c.walk.place in
    let left = route_of c.walk.left.now in let way = c.walk.invariant.each c.requires.0 c.requires.1 in
    let same : c.code.result.now ≡ h.code = search rules in
    let within : p < length h.code = path_within commands h c.args.times p left way.rest way.on in
    let i = get_or c.instrs-instrs.result.now p Return in
    let at = at_place h.code c.instrs-instrs.result.now p (c.instrs-instrs.ensures.same ∙ same) within in
    let next : p + 1 ≡ suc p = omega arith in
    let told = c.in_ok-push.ensures.items ∙ ap (with_visit c.walk.visits.items c.args.times p i) c.instr_cost-cost.ensures in
    let b = way_block commands h c.args.times c.args.start (route_of c.args.path.now) c.args.visits.now.items p left c.walk.visits.items c.push.new.self.items c.walk.spent c.instr_cost-cost.result i c.walk.invariant at told c.instr_cost-cost.ensures c.in-Around.turns c.in-Around.inner c.requires (c.in-Around.ensures ∙ ap (λ n. exits_of n i) next) in
    let later = b.later in let l = c.walk.invariant.later in (
      omega (arith, later, within, l),
      (b.once, subst (λ s. Path commands h c.in-Around.inner s b.once) (sym (c.iteration.ensures.turn b.turn b.rest b.is)) b.inner),
    )

pub overflow_add-place-in-Around : goal.overflow_add-place-in-Around
overflow_add-place-in-Around t c =
    let commands = c.args.callable.now in let h = c.args.handler.now in let p = c.walk.place in
    let left = route_of c.walk.left.now in let way = c.walk.invariant.each c.requires.0 c.requires.1 in
    let same : c.code.result.now ≡ h.code = search rules in
    let within : p < length h.code = path_within commands h c.args.times p left way.rest way.on in
    let i = get_or c.instrs-instrs.result.now p Return in
    let at = at_place h.code c.instrs-instrs.result.now p (c.instrs-instrs.ensures.same ∙ same) within in
    let next : p + 1 ≡ suc p = omega arith in
    let told = c.in_ok-push.ensures.items ∙ ap (with_visit c.walk.visits.items c.args.times p i) c.instr_cost-cost.ensures in
    let b = way_block commands h c.args.times c.args.start (route_of c.args.path.now) c.args.visits.now.items p left c.walk.visits.items c.push.new.self.items c.walk.spent c.instr_cost-cost.result i c.walk.invariant at told c.instr_cost-cost.ensures c.in-Around.turns c.in-Around.inner c.requires (c.in-Around.ensures ∙ ap (λ n. exits_of n i) next) in
    let read : c.code-in-Around.result.now ≡ h.code = search rules in
    let is = c.end-place.ensures b.end (subst (λ xs. Closes xs p b.end) (sym read) b.closes) in
    let past = path_within commands h c.args.times (suc b.end) b.rest b.after b.past in
    let size : length c.instrs-instrs.result.now ≡ length h.code = ap length (c.instrs-instrs.ensures.same ∙ same) in
    omega (arith, is, past, size)

pub walk-smaller : goal.walk-smaller
walk-smaller t c =
    let commands = c.args.callable.now in let h = c.args.handler.now in let p = c.walk.place in
    let left = route_of c.walk.left.now in let way = c.walk.invariant.each c.requires.0 c.requires.1 in
    let same : c.code.result.now ≡ h.code = search rules in
    let within : p < length h.code = path_within commands h c.args.times p left way.rest way.on in
    let i = get_or c.instrs-instrs.result.now p Return in
    let at = at_place h.code c.instrs-instrs.result.now p (c.instrs-instrs.ensures.same ∙ same) within in
    let next : p + 1 ≡ suc p = omega arith in
    let told = c.in_ok-push.ensures.items ∙ ap (with_visit c.walk.visits.items c.args.times p i) c.instr_cost-cost.ensures in
    let read : c.code-in-Around.result.now ≡ h.code = search rules in
    let on = way_around commands h c.args.times c.args.start (route_of c.args.path.now) c.args.visits.now.items p left c.walk.visits.items c.push.new.self.items c.walk.spent c.instr_cost-cost.result i c.walk.invariant at told c.instr_cost-cost.ensures c.in-Around.turns c.in-Around.inner c.end-place.result c.in_ok-one-in-Around.one c.saturating_mul-often.result
    c.saturating_mul-block.result c.saturating_add-spent-in-Around.result (route_of c.iteration.result.0.now) (route_of c.iteration.result.1.now)
    c.add_visits.new.visits.items c.requires (c.in-Around.ensures ∙ ap (λ n. exits_of n i) next) (c.saturating_mul-often.ensures ∙ ap (λ y. capped (c.args.times * y)) c.from.ensures)
    (c.saturating_mul-block.ensures ∙ ap (λ x. capped (x * c.from-in-Around.result)) c.saturating_add-in-Around.ensures
    ∙ ap (λ y. capped (capped (c.in_ok-one-in-Around.one + 1) * y)) c.from-in-Around.ensures)
    (let a = c.saturating_add-spent-in-Around.ensures in let b = c.saturating_add-in-Around-2.ensures in omega (arith, a, b))
    (λ e closes. c.end-place.ensures e (subst (λ xs. Closes xs p e) (sym read) closes))
    c.iteration.ensures.turn c.iteration.ensures.rest c.in_ok-one-in-Around.ensures in
    let l = on.0 in omega (arith, l, within)

pub walk-preserved : goal.walk-preserved
walk-preserved t c =
    let commands = c.args.callable.now in let h = c.args.handler.now in let p = c.walk.place in
    let left = route_of c.walk.left.now in let way = c.walk.invariant.each c.requires.0 c.requires.1 in
    let same : c.code.result.now ≡ h.code = search rules in
    let within : p < length h.code = path_within commands h c.args.times p left way.rest way.on in
    let i = get_or c.instrs-instrs.result.now p Return in
    let at = at_place h.code c.instrs-instrs.result.now p (c.instrs-instrs.ensures.same ∙ same) within in
    let next : p + 1 ≡ suc p = omega arith in
    let told = c.in_ok-push.ensures.items ∙ ap (with_visit c.walk.visits.items c.args.times p i) c.instr_cost-cost.ensures in
    let read : c.code-in-Around.result.now ≡ h.code = search rules in
    let on = way_around commands h c.args.times c.args.start (route_of c.args.path.now) c.args.visits.now.items p left c.walk.visits.items c.push.new.self.items c.walk.spent c.instr_cost-cost.result i c.walk.invariant at told c.instr_cost-cost.ensures c.in-Around.turns c.in-Around.inner c.end-place.result c.in_ok-one-in-Around.one c.saturating_mul-often.result
    c.saturating_mul-block.result c.saturating_add-spent-in-Around.result (route_of c.iteration.result.0.now) (route_of c.iteration.result.1.now)
    c.add_visits.new.visits.items c.requires (c.in-Around.ensures ∙ ap (λ n. exits_of n i) next) (c.saturating_mul-often.ensures ∙ ap (λ y. capped (c.args.times * y)) c.from.ensures)
    (c.saturating_mul-block.ensures ∙ ap (λ x. capped (x * c.from-in-Around.result)) c.saturating_add-in-Around.ensures
    ∙ ap (λ y. capped (capped (c.in_ok-one-in-Around.one + 1) * y)) c.from-in-Around.ensures)
    (let a = c.saturating_add-spent-in-Around.ensures in let b = c.saturating_add-in-Around-2.ensures in omega (arith, a, b))
    (λ e closes. c.end-place.ensures e (subst (λ xs. Closes xs p e) (sym read) closes))
    c.iteration.ensures.turn c.iteration.ensures.rest c.in_ok-one-in-Around.ensures in
    on.1
