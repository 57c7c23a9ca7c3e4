use Rattle.std.proofs.Common.{ℤ, refl, subst, w64}
use Rattle.std.proofs.Math.Facts.{to_z-of_z}
use Rattle.std.specs.Prelude.{Some}
use Rattle.kb_c.proofs.AnswerLemmas.{answers_engine}
use Rattle.kb_context.specs.declared.value.ContextValue.TheVariants as value
use Rattle.kb_engine.specs.Engine.{TellsIf, when_text}
use Rattle.kb_engine.specs.Outcome.{outcome_numbered}
use Rattle.kb_engine.specs.Values.{EngineData}
use Rattle.kb_engine.specs.declared.outcome.Outcome.{Outcome}
use Rattle.kb_engine.specs.declared.outcome.Outcome.TheVariants as outcome
use Rattle.kb_trace.specs.declared.event.Event.TheVariants as event
use Rattle.kb_c.proofs.events.pafjirn_set_number.Goals as goal

-- the number is what the machine's number is read as
pub returns : goal.returns
returns c =
    let tells = λ (n : ℤ) (old : EngineData) (o : Outcome) (new : EngineData).
    TellsIf outcome.NoText (when_text c.args.scope.now (when_text c.args.key.now
    (Some (event.SetKey c.args.scope.now c.args.key.now (value.Number n))))) old o new in
    let told = c.set_number-outcome in
    let lent = c.deref_mut.result.now in
    let told_number = subst (λ n. tells n lent.engine told.result told.new.self)
    (to_z-of_z {w = w64} {z = c.args.number} search) told.ensures in
    answers_engine (tells c.args.number) c.args.h.now.value c.put.new.self.value
    (outcome_numbered c.number-2.result) c.in-Some.hosted.value _ _ c.in-Some.ensures.value c.number-2.ensures
    c.put.ensures
    (subst (λ h. tells c.args.number h.engine told.result told.new.self) c.deref_mut.ensures.value told_number) search
