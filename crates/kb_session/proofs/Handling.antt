-- An event that starts no command.
use Rattle.std.proofs.Common.{◌≡◌, Result, Ok, Err, sym, subst}
use Rattle.std.specs.Prelude.{IfOk}
use Rattle.std.specs.declared.alloc.AllocError.{AllocError}
use Rattle.kb_session.specs.Handled.{done_by}
use Rattle.kb_session.specs.Session.{Does}
use Rattle.kb_session.specs.State.{State, happens}
use Rattle.kb_session.specs.declared.handled.Handled.{Handled}
use Rattle.kb_stream.specs.Fold.{Traced}
use Rattle.kb_trace.specs.declared.event.Answer.{Answer}
use Rattle.kb_trace.specs.declared.event.Event.{Event}

module _ (e f : Event) (old new : Traced State) (is : e ≡ f) where
  -- by the result of its own call
  done : (answered : Result Answer AllocError) → IfOk answered (λ a. Does (happens f) old a new)
      → IfOk (done_by answered) (λ handled. Does (happens e) old handled.answer new)
  done (Ok answer) does = subst (λ x. Does (happens x) old answer new) (sym is) does
  done (Err refused) does = does

  pub done_as : (answered : Result Answer AllocError) (made : Result Handled AllocError) → made ≡ done_by answered
      → IfOk answered (λ a. Does (happens f) old a new)
      → IfOk made (λ handled. Does (happens e) old handled.answer new)
  done_as answered made same does =
      subst (λ (m : Result Handled AllocError). IfOk m (λ handled. Does (happens e) old handled.answer new)) (sym same)
      (done answered does)
