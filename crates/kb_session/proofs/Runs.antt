-- Runs of events: steps, ends and stops.
use Rattle.std.proofs.Common.{◌≡◌, true, false, List, [], ◌∷◌, refl, sym, ap, subst, ◌∙◌}
use Rattle.std.specs.Prelude.{◌||◌}
use Rattle.kb_session.specs.declared.fault.SessionFault.{SessionFault}
use Rattle.kb_session.specs.declared.fault.SessionFault.TheVariants as fault
use Rattle.kb_session.specs.Session.{took, halt, half_done, Halts, HaltsAt, HaltsRunning, FailsAt, FailsAmong}
use Rattle.kb_session.specs.Session.{is_left, is_late}
use Rattle.kb_session.specs.State.{State, Told, happens, reload, register, dispose, types_rule, step_unless, next}
use Rattle.kb_session.specs.State.{out_of}
use Rattle.kb_stream.specs.Fold.{Traced, nothing, fold, after_all}
use Rattle.kb_stream.proofs.FoldLemmas.{fold-still, RunsUpTo, run_start, run_step, run_end}
use Rattle.kb_stream.proofs.FoldLemmas.{run_stop}
use Rattle.kb_trace.specs.declared.event.Event.TheVariants as event

-- a stopped session ignores all inputs
pub stopped-fold : (told : List Told) (s : State) → s.stopped ≡ true → fold next told s ≡ nothing s
stopped-fold = fold-still next (λ s. s.stopped ≡ true) (λ x s h. ap (λ b. out_of (step_unless b x s)) h)

pub stopped-all : (told : List Told) (old : Traced State) → old.state.stopped ≡ true
    → old ≡ after_all next told old
stopped-all told old h = run_end next old old told told (run_start next old told)
    (stopped-fold told old.state h)

-- ---- inputs after a stop

left_now : (rest : List Told) (event : Told) (s : State) → s.stopped ≡ false
    → is_left (event ∷ rest) s ≡ is_left rest (next event s).state
left_now rest event s running = ap (λ b. b || is_left rest (next event s).state) running

pub one_more : (old now new : Traced State) (events rest : List Told) (event : Told)
    → RunsUpTo next old events now (event ∷ rest)
    → new ≡ took event now → RunsUpTo next old events new rest
one_more old now new events rest event runs is = run_step next old now new events rest event runs is

pub still_left : (old now new : Traced State) (events rest : List Told) (event : Told)
    → is_left events old.state ≡ is_left (event ∷ rest) now.state → now.state.stopped ≡ false
    → new ≡ took event now → is_left events old.state ≡ is_left rest new.state
still_left old now new events rest event left running is =
    left ∙ left_now rest event now.state running ∙ ap (λ s. is_left rest s.state) (sym is)

pub all_run : (old now : Traced State) (events : List Told) → RunsUpTo next old events now []
    → now ≡ after_all next events old
all_run old now events runs = run_end next old now events [] runs refl

-- a run that handled all its events was never stopped too early
pub in_time : (old now : Traced State) (events : List Told) → old.state.stopped ≡ false
    → is_left events old.state ≡ is_left [] now.state → is_late events old.state ≡ false
in_time old now events running left = ap (λ b. b || is_left events old.state) running ∙ left

-- a run of a stopped session comes too late
pub too_late : (old : Traced State) (events : List Told) → old.state.stopped ≡ true
    → is_late events old.state ≡ true
too_late old events stopped = ap (λ b. b || is_left events old.state) stopped

pub ruleset progress = (run_start, one_more, still_left, all_run, in_time, stopped-all, too_late)

halt_halts : (old new : Traced State) → new ≡ halt old → Halts old.state new.state × (new.trace ≡ old.trace)
halt_halts old new is = (
  ap (λ (s : Traced State). s.state) is
      ∙ ap (λ (s : Traced State). half_done s.state.core s.state.pressed old.state) (sym is),
  ap
      (λ (s : Traced State). s.trace) is,
)

-- an incomplete choice leaves the keystrokes
choice_halts : (old new : State) → new ≡ half_done new.core old.pressed old → Halts old new
choice_halts old new is = is ∙ ap (λ (s : State). half_done new.core s.pressed old) (sym is)

-- refused memory stops a session, also after an incomplete input
pub halts_at : (told : Told) (old new : Traced State) → HaltsAt told old new
    → Halts old.state new.state × (new.trace ≡ old.trace)
halts_at (happens (event.Key key)) old new h = h
halts_at (happens (event.Focus name)) old new h = halt_halts old new h
halts_at (happens (event.SetKey name key value)) old new h = halt_halts old new h
halts_at (happens (event.UnsetKey name key)) old new h = halt_halts old new h
halts_at (happens (event.Palette query)) old new h = halt_halts old new h
halts_at (happens (event.Choose number)) old new h = (choice_halts old.state new.state h.0, h.1)
halts_at (happens (event.Enable id)) old new h = halt_halts old new h
halts_at (happens (event.Disable id)) old new h = halt_halts old new h
halts_at (happens (event.Update id bytes)) old new h = halt_halts old new h
halts_at (happens event.NoClosure) old new h = halt_halts old new h
halts_at (happens (event.Unread number)) old new h = halt_halts old new h
halts_at (reload bytes marks) old new h = halt_halts old new h
halts_at (register native) old new h = halt_halts old new h
halts_at (dispose number) old new h = halt_halts old new h
halts_at (types_rule number key command text) old new h = halt_halts old new h

-- the fault of an event is the fault of the run
pub runs_fail : (old now new : Traced State) (events left rest : List Told) (event : Told) (f : SessionFault)
    → RunsUpTo next old events now left → left ≡ event ∷ rest
    → is_left events old.state ≡ is_left left now.state
    → old.state.stopped ≡ false → FailsAt f event now new → FailsAmong f events old new
runs_fail old now new events left rest event (fault.Refused refusal) runs is same running fails = fails
runs_fail old now new events left rest event fault.NoMemory runs is same running fails =
    let h = halts_at event now new fails.1 in (
      running,
      run_stop next HaltsRunning old now new events rest event
          (subst (λ (l : List Told). RunsUpTo next old events now l) is runs) (fails.0, h.0) h.1,
    )
runs_fail old now new events left rest event fault.Stopped runs is same running fails = (
  ap (λ b. b || is_left events old.state) running ∙ same ∙ ap (λ told. is_left told now.state) is
      ∙ ap (λ b. b || is_left rest (next event now.state).state) fails.0,
  fails.1
      ∙ run_end next old now events left runs (stopped-fold left now.state fails.0),
)
