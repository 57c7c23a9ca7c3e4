use Rattle.std.proofs.Common.{◌≡◌, ◌∙◌, ap, sym, rules, arith}
use Rattle.std.specs.Prelude.{slice_get}
use Rattle.kb_vm.specs.Position.{standing}
use Rattle.kb_vm.specs.State.{fetched_at, next_of}
use Rattle.kb_vm.proofs.Runs.{stops, calls, goes, pauses, lacks}
use Rattle.kb_vm.proofs.machine.run_on.Goals as goal

pub returns-in-Err-clause-pauses : goal.returns-in-Err-clause-pauses
returns-in-Err-clause-pauses c =
    let l = c.loop-instr in
    let first = standing c.args.place c.args.turns.now c.args.operands.now in
    let code : c.instrs-instrs.result.now ≡ c.args.handler.now.code = search rules in
    let is = c.in-Err.ensures.instr ∙ ap (λ xs. fetched_at (slice_get xs l.place) l.left) code in
    stops c.args.handler.now c.args.args.now c.args.core.now first c.args.left l.place l.left l.turns l.operands c.in-Err.trap c.paused_at.result l.invariant.far is c.paused_at.ensures

pub returns-in-Some-clause-pauses : goal.returns-in-Some-clause-pauses
returns-in-Some-clause-pauses c =
    let l = c.loop-instr in
    let first = standing c.args.place c.args.turns.now c.args.operands.now in
    let code : c.instrs-instrs.result.now ≡ c.args.handler.now.code = search rules in
    let is = c.in-Ok.ensures.instr ∙ ap (λ xs. fetched_at (slice_get xs l.place) l.left) code in
    calls c.args.handler.now c.args.args.now c.args.core.now first c.args.left l.place l.left l.turns l.operands c.in-Some.index c.in-Ok.instr c.paused_at-in-Some.result l.invariant.far is l.invariant.few c.in-Some.ensures c.paused_at-in-Some.ensures

pub returns-in_default-perform-clause-pauses : goal.returns-in_default-perform-clause-pauses
returns-in_default-perform-clause-pauses c =
    let l = c.loop-instr in
    let first = standing c.args.place c.args.turns.now c.args.operands.now in
    let code : c.instrs-instrs.result.now ≡ c.args.handler.now.code = search rules in
    let is = c.in-Ok.ensures.instr ∙ ap (λ xs. fetched_at (slice_get xs l.place) l.left) code in
    lacks c.args.handler.now c.args.args.now c.args.core.now first c.args.left l.place l.left l.turns l.operands l.invariant.far c.in-Ok.instr is l.invariant.few c.paused_at-in_default-perform.result c.perform.new.operands c.in_default-perform.ensures.memory c.paused_at-in_default-perform.ensures

pub loop-instr-preserved : goal.loop-instr-preserved
loop-instr-preserved c =
    let l = c.loop-instr in
    let h = c.args.handler.now in
    let first = standing c.args.place c.args.turns.now c.args.operands.now in
    let code : c.instrs-instrs.result.now ≡ h.code = search rules in
    let is = c.in-Ok.ensures.instr ∙ ap (λ xs. fetched_at (slice_get xs l.place) l.left) code in
    let same : c.code-code.result.now ≡ h.code = search rules in
    let after = c.perform.new.operands in
    let action = c.in-Ok-perform.action in
    record {
      far = goes h c.args.args.now c.args.core.now first c.args.left l.place l.left l.turns l.operands l.invariant.far c.in-Ok.instr is l.invariant.few action after c.in-Ok-perform.ensures.does c.in-Ok-next_place.next c.next_place.new.turns
          (ap (λ xs. next_of xs (standing l.place l.turns after) action) (sym same) ∙ c.in-Ok-next_place.ensures after);
      few = omega (arith, l.invariant.few);
    }

pub returns-in-Err-next_place-clause-pauses : goal.returns-in-Err-next_place-clause-pauses
returns-in-Err-next_place-clause-pauses c =
    let l = c.loop-instr in
    let h = c.args.handler.now in
    let first = standing c.args.place c.args.turns.now c.args.operands.now in
    let code : c.instrs-instrs.result.now ≡ h.code = search rules in
    let is = c.in-Ok.ensures.instr ∙ ap (λ xs. fetched_at (slice_get xs l.place) l.left) code in
    let same : c.code-code.result.now ≡ h.code = search rules in
    let after = c.perform.new.operands in
    let action = c.in-Ok-perform.action in
    pauses h c.args.args.now c.args.core.now first c.args.left l.place l.left l.turns l.operands l.invariant.far c.in-Ok.instr is l.invariant.few action after c.in-Ok-perform.ensures.does c.in-Err-next_place.why c.next_place.new.turns c.paused_at-in-Err-next_place.result
    (ap (λ xs. next_of xs (standing l.place l.turns after) action) (sym same) ∙ c.in-Err-next_place.ensures after)
    c.paused_at-in-Err-next_place.ensures
