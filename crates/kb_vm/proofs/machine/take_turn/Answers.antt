use Rattle.std.proofs.Common.{◌<◌, ◌+◌, ◌∙◌, ap, sym, subst, arith}
use Rattle.kb_vm.specs.Meaning.{run}
use Rattle.kb_vm.specs.Position.{standing}
use Rattle.kb_vm.specs.State.{PausedFrom, IsPaid, TurnedFrom, finish, position_of}
use Rattle.kb_vm.specs.declared.machine.Machine.{Machine}
use Rattle.kb_vm.proofs.Frames.{finish_keeps, finish_stuck}
use Rattle.kb_vm.proofs.Turns.{left_pays, left_turned, paid_on, paused_shows}
use Rattle.kb_vm.proofs.machine.take_turn.Goals as goal

pub returns-in-Stop-clause-turned : goal.returns-in-Stop-clause-turned
returns-in-Stop-clause-turned g c = λ w s.
    let m = c.args.machine in
    let f = m.frame in
    let t = g.L.Commands.live c.args.commands.now in
    let p = c.run_on-paused in
    let q = p.ensures.pauses t w s.core_is in
    let left = subst (PausedFrom t f.handler f.args (standing p.result.place p.new.turns p.new.operands) (run t f.handler f.args f.left (position_of f) w) q.0 p.result.left) c.in-Stop.is q.2 in (
      q.0,
      paused_shows w q.0 m.core m.lines m.spent _ _ s q.1 c.from.ensures,
      ap (finish t m.callers) left ∙ finish_stuck t m.callers c.in-Stop.trap f.handler.command p.result.place q.0,
    )

pub returns-in-Leave-clause-turned : goal.returns-in-Leave-clause-turned
returns-in-Leave-clause-turned g c = λ w s.
    let m = c.args.machine in
    let f = m.frame in
    let t = g.L.Commands.live c.args.commands.now in
    let p = c.run_on-paused in
    let q = p.ensures.pauses t w s.core_is in
    let left = subst (PausedFrom t f.handler f.args (standing p.result.place p.new.turns p.new.operands) (run t f.handler f.args f.left (position_of f) w) q.0 p.result.left) c.in-Leave.is q.2 in
    subst (λ a. TurnedFrom t a c.leave.result) (sym (ap (finish t m.callers) left))
    (left_turned t _ c.leave.result q.0 (paused_shows w q.0 m.core m.lines m.spent _ _ s q.1 c.from.ensures) (c.leave.ensures t))

pub returns-in-Leave-clause-pays : goal.returns-in-Leave-clause-pays
returns-in-Leave-clause-pays g c =
    let m = c.args.machine in
    let p = c.run_on-paused.result in
    let n : Machine = record {
      frame = record { handler = m.frame.handler; args = m.frame.args; place = p.place; turns = c.run_on-paused.new.turns; left = p.left; operands = c.run_on-paused.new.operands };
      callers = m.callers;
      core = m.core;
      lines = m.lines;
      spent = m.spent + c.from.result;
    } in
    let less : p.left < m.frame.left = subst (IsPaid m.frame.left p.place p.left) c.in-Leave.is c.run_on-paused.ensures.paid in
    paid_on m n c.leave.result (omega (arith, less, c.from.ensures)) (omega (arith, less)) (left_pays n c.leave.result (c.leave.ensures _))

pub returns-in-Call-clause-turned : goal.returns-in-Call-clause-turned
returns-in-Call-clause-turned g c = λ w s.
    let m = c.args.machine in
    let f = m.frame in
    let t = g.L.Commands.live c.args.commands.now in
    let p = c.run_on-paused in
    let q = p.ensures.pauses t w s.core_is in
    let left = subst (PausedFrom t f.handler f.args (standing p.result.place p.new.turns p.new.operands) (run t f.handler f.args f.left (position_of f) w) q.0 p.result.left) c.in-Call.is q.2 in
    subst (λ a. TurnedFrom t a c.enter_call.result) (sym (ap (finish t m.callers) left.1))
    (c.enter_call.ensures.turned q.0 (paused_shows w q.0 m.core m.lines m.spent _ _ s q.1 c.from.ensures) left.0)

pub returns-in-NoMemory-clause-turned : goal.returns-in-NoMemory-clause-turned
returns-in-NoMemory-clause-turned g c = λ w s.
    let m = c.args.machine in
    let f = m.frame in
    let t = g.L.Commands.live c.args.commands.now in
    let p = c.run_on-paused in
    let q = p.ensures.pauses t w s.core_is in
    let left = subst (PausedFrom t f.handler f.args (standing p.result.place p.new.turns p.new.operands) (run t f.handler f.args f.left (position_of f) w) q.0 p.result.left) c.in-NoMemory.is q.2 in (
      q.0,
      paused_shows w q.0 m.core m.lines m.spent _ _ s q.1 c.from.ensures,
      finish_keeps t m.callers _ q.0 left.0,
      left.1,
    )
