use Rattle.std.proofs.Common.{◌≡◌, ◌∙◌, sym, subst, IfOk, Some, option_map}
use Rattle.serde_json.specs.View.{view}
use Rattle.kb_code.specs.Commands.{Coded}
use Rattle.kb_registry.specs.Live.{callee, table_of}
use Rattle.kb_execute.proofs.StartLemmas.{handler_ends, handler_started}
use Rattle.kb_execute.proofs.start.run_handler.Goals as goal
use Rattle.kb_execute.specs.HeldCore.{outcome}
use Rattle.kb_execute.specs.Start.{behind, started}
use Rattle.kb_vm.specs.Meaning.{first_world, start_callee, start_of}
use Rattle.kb_vm.specs.Outcome.{Gives}

pub start_coded-ended-requires-clause-live : goal.start_coded-ended-requires-clause-live
start_coded-ended-requires-clause-live g c =
    subst (λ name. callee name c.args.registry.now ≡ Some (Coded c.args.handler)) (sym c.requires.named) c.requires.live

pub note_end-requires : goal.note_end-requires
note_end-requires g c =
    let table = table_of c.args.registry.now in
    let gives = subst
    (λ name. Gives (start_of table name c.in-Some.args c.args.core.now) c.args.core.now
    (outcome c.start_coded-ended.new.self c.start_coded-ended.result)) c.requires.named
    c.start_coded-ended.ensures.answer in (
      c.args.core.now,
      start_callee table c.args.command.now (Coded c.args.handler) c.in-Some.args (first_world c.args.core.now),
      rw c.core.ensures
          (handler_ends table c.args.command.now c.args.handler c.in-Some.args c.args.core.now _
          c.requires.live gives),
    )

pub returns-clause-ok : goal.returns-clause-ok
returns-clause-ok g c =
    let table = table_of c.args.registry.now in
    let gives = subst
    (λ name. Gives (start_of table name c.in-Some.args c.args.core.now) c.args.core.now
    (outcome c.start_coded-ended.new.self c.start_coded-ended.result)) c.requires.named
    c.start_coded-ended.ensures.answer in
    let answer = start_callee table c.args.command.now (Coded c.args.handler) c.in-Some.args
    (first_world c.args.core.now) in
    let ends = handler_ends table c.args.command.now c.args.handler c.in-Some.args c.args.core.now _ c.requires.live
    gives in
    let read = rw (c.signature.ensures.signature, c.handler.ensures) at (sym c.in-Some.is ∙ c.in_ok-args.ensures.value) in
    let fit = rw (c.in-Some.is, c.signature.ensures.signature, c.handler.ensures) at c.in_ok-args.ensures.fits in
    let is = handler_started c.args.registry.now c.args.command.now c.args.handler
    (option_map (λ v. view v.now) c.args.given) c.in-Some.args c.args.core.now c.requires.live read fit in
    let ok = c.note_end.ensures.ok c.args.core.now answer (rw c.core.ensures ends) in
    subst
    (λ s. IfOk c.note_end.result (λ finish. started c.start_coded-ended.new.self c.note_end.new.trace finish
    ≡ behind c.args.trace.now s)) is (rw c.core.ensures at ok)
