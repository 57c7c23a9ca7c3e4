-- What is noted behind an event is what the event takes; and memory that is refused behind a press stops the
-- session as memory that is refused in it does.
use Rattle.std.proofs.Common.{◌≡◌, ◌∙◌, refl, sym, ap, subst, Bool, false, ℕ, List, [], ◌∷◌, ◌++◌}
use Rattle.std.specs.Prelude.{Option, Some, None}
use Rattle.std.specs.List.Sorted.{IsPermutation}
use Rattle.std.proofs.lemmas.List.Sorted.{IsPermutation-refl}
use Rattle.kb_core.specs.declared.native.Native.{Native}
use Rattle.kb_bindings.specs.Sources.{IsPlaceOf, source_of}
use Rattle.kb_engine.specs.Running.{DoesSaid, FindsBy, HaltsFrom, HaltsInLine, Tells, TellsLine, TellsSaid}
use Rattle.kb_engine.specs.Running.{next_number, outcome_of, told_to}
use Rattle.kb_engine.specs.Taken.{Completes, CompletesAs, IsRule, Takes, TakesBy, TakesFound, TakesLine, TakesSaid}
use Rattle.kb_engine.specs.Taken.{bare, prepared, prepared_line, taken_if}
use Rattle.kb_engine.specs.Values.{RunningData}
use Rattle.kb_engine.specs.declared.taken.Taken.{Taken}
use Rattle.kb_engine.specs.declared.taken.TakenKind.TheVariants as kind
use Rattle.kb_engine.specs.declared.outcome.Outcome.{Outcome}
use Rattle.kb_engine.specs.declared.outcome.Outcome.TheVariants as outcome
use Rattle.kb_keys.specs.Chord.{chord_spelling}
use Rattle.kb_keys.specs.declared.keystroke.Keystroke.{Keystroke}
use Rattle.kb_resolve.specs.Resolved.{Resolution, found, more, nothing}
use Rattle.kb_resolve.specs.declared.found.Found.{Found}
use Rattle.kb_resolve.specs.declared.found.Found.TheVariants as place
use Rattle.kb_script.specs.Script.{line_said}
use Rattle.kb_script.specs.Shelf.{FindsSaid, Said, move_unless, stand, takes, tells}
use Rattle.kb_session.specs.Inspect.{Finds, found_by}
use Rattle.kb_session.specs.Session.{Halts, half_done}
use Rattle.kb_session.specs.State.{State, dispose, happens, next, register, reload, step_on, step_unless}
use Rattle.kb_session.specs.State.{types_rule}
use Rattle.kb_trace.specs.declared.event.Event.{Event}
use Rattle.kb_trace.specs.declared.event.Event.TheVariants as event

-- ---- a press

-- only the core, the keystrokes and whether the session is stopped may differ
abbrev IsPressed : State → State → Type 0
IsPressed s t = t ≡ record s { core = t.core; pressed = t.pressed; stopped = t.stopped }

press_is : (key : Keystroke) (s t : State) → s.stopped ≡ false → t ≡ (next (happens (event.Key key)) s).state
    → IsPressed s t
press_is key s t running is =
    let same : t ≡ (step_on (happens (event.Key key)) s).state =
    is ∙ ap (λ (b : Bool). (step_unless b (happens (event.Key key)) s).state) running in
    subst (λ (u : State). IsPressed s u) (sym same) refl

halts_on : (s t u : State) → IsPressed s t → Halts t u → Halts s u
halts_on s t u same halts = halts ∙ ap (half_done u.core u.pressed) same

-- the rule that was found is the one that the press takes
completes_press : (key : Keystroke) (s t : State) (f : Found) (before taken : Taken) → IsPressed s t
    → IsPlaceOf t.sources f (found_by key s) → before ≡ prepared (event.Key key) s → Completes t f before taken
    → Takes (event.Key key) s taken
completes_press key s t f before taken same finds is h =
    by (found_by key s) (subst (λ (r : Option Resolution). CompletesAs t r before taken) finds h)
  where
    by : (r : Resolution) → CompletesAs t (Some r) before taken
        → TakesFound s (chord_spelling (s.pressed ++ key ∷ [])) r taken
    by (found rule) h = record {
      kind_is = h.kind_is;
      chord_is = h.chord_is ∙ ap (λ (b : Taken). b.chord) is;
      command_is = h.command_is;
      arguments_are = h.arguments_are;
      source_is = h.source_is ∙ ap (λ (u : State). source_of u.sources rule.origin) same;
      place_is = h.place_is;
    }
    by more h = h ∙ ap (λ (b : Taken). bare kind.Chord b.chord) is
    by nothing h = h ∙ is

completes_none : (t : State) (f : Found) (before taken : Taken) → f ≡ place.Nothing → Completes t f before taken
    → taken ≡ before
completes_none t f before taken none h = subst (λ (f : Found). Completes t f before taken) none h

no_rule : (f : Found) → f ≡ place.Nothing → IsRule f → ⊥
no_rule f none rule = subst IsRule none rule

-- ---- an event

completes : (e : Event) (s t : State) (f : Found) (before taken : Taken) → s.stopped ≡ false
    → t ≡ (next (happens e) s).state → Finds e s t f → before ≡ prepared e s → Completes t f before taken
    → Takes e s taken
completes (event.Key key) s t f before taken running is finds same h =
    completes_press key s t f before taken (press_is key s t running is) finds same h
completes (event.Choose number) s t f before taken running is finds same h =
    completes_none t f before taken finds h ∙ same
completes (event.Focus name) s t f before taken running is finds same h =
    completes_none t f before taken finds h ∙ same
completes (event.SetKey name key value) s t f before taken running is finds same h =
    completes_none t f before taken finds h ∙ same
completes (event.UnsetKey name key) s t f before taken running is finds same h =
    completes_none t f before taken finds h ∙ same
completes (event.Palette query) s t f before taken running is finds same h =
    completes_none t f before taken finds h ∙ same
completes (event.Enable id) s t f before taken running is finds same h =
    completes_none t f before taken finds h ∙ same
completes (event.Disable id) s t f before taken running is finds same h =
    completes_none t f before taken finds h ∙ same
completes (event.Update id bytes) s t f before taken running is finds same h =
    completes_none t f before taken finds h ∙ same
completes event.NoClosure s t f before taken running is finds same h =
    completes_none t f before taken finds h ∙ same
completes (event.Unread number) s t f before taken running is finds same h =
    completes_none t f before taken finds h ∙ same

-- where a rule was found, a key was pressed
rule_pressed : (e : Event) (s t : State) (f : Found) → s.stopped ≡ false → t ≡ (next (happens e) s).state
    → Finds e s t f → IsRule f → IsPressed s t
rule_pressed (event.Key key) s t f running is finds rule = press_is key s t running is
rule_pressed (event.Choose number) s t f running is finds rule = absurd (no_rule f finds rule)
rule_pressed (event.Focus name) s t f running is finds rule = absurd (no_rule f finds rule)
rule_pressed (event.SetKey name key value) s t f running is finds rule = absurd (no_rule f finds rule)
rule_pressed (event.UnsetKey name key) s t f running is finds rule = absurd (no_rule f finds rule)
rule_pressed (event.Palette query) s t f running is finds rule = absurd (no_rule f finds rule)
rule_pressed (event.Enable id) s t f running is finds rule = absurd (no_rule f finds rule)
rule_pressed (event.Disable id) s t f running is finds rule = absurd (no_rule f finds rule)
rule_pressed (event.Update id bytes) s t f running is finds rule = absurd (no_rule f finds rule)
rule_pressed event.NoClosure s t f running is finds rule = absurd (no_rule f finds rule)
rule_pressed (event.Unread number) s t f running is finds rule = absurd (no_rule f finds rule)

module _ (e : Event) (old mid : RunningData) (f : Found) where
  abbrev FindsIn : Found → Type 0
  FindsIn f = Finds e old.session.state mid.session.state f

  done_taken : (o : Outcome) (before taken : Taken)
      → (old.session.state.stopped ≡ false) × (outcome_of e old.session.state ≡ o) × (mid ≡ told_to (happens e) old)
      → FindsIn f → before ≡ prepared e old.session.state → Completes mid.session.state f before taken
      → Takes e old.session.state taken
  done_taken o before taken does finds same h =
      completes e old.session.state mid.session.state f before taken does.0
      (ap (λ (r : RunningData). r.session.state) does.2) finds same h

  pub told_taken : (o : Outcome) (before taken : Taken) → Tells e old o mid → FindsBy FindsIn o f
      → before ≡ prepared e old.session.state → Completes mid.session.state f before taken
      → TakesBy (Takes e old.session.state) o (taken_if o taken)
  told_taken outcome.Done before taken does finds same h = done_taken outcome.Done before taken does finds same h
  told_taken outcome.OutOfOrder before taken does finds same h =
      done_taken outcome.OutOfOrder before taken does finds same h
  told_taken outcome.Unknown before taken does finds same h =
      done_taken outcome.Unknown before taken does finds same h
  told_taken outcome.Refused before taken does finds same h =
      done_taken outcome.Refused before taken does finds same h
  told_taken outcome.NoMemory before taken does finds same h = refl
  told_taken outcome.NoKey before taken does finds same h = done_taken outcome.NoKey before taken does finds same h
  told_taken outcome.NoText before taken does finds same h =
      done_taken outcome.NoText before taken does finds same h
  told_taken outcome.NotFound before taken does finds same h =
      done_taken outcome.NotFound before taken does finds same h
  told_taken outcome.BadArguments before taken does finds same h =
      done_taken outcome.BadArguments before taken does finds same h
  told_taken outcome.Trapped before taken does finds same h =
      done_taken outcome.Trapped before taken does finds same h
  told_taken outcome.Stopped before taken does finds same h = refl

  done_halts : (o : Outcome) (new : RunningData)
      → (old.session.state.stopped ≡ false) × (outcome_of e old.session.state ≡ o) × (mid ≡ told_to (happens e) old)
      → FindsIn f → IsRule f → HaltsFrom mid new → HaltsFrom old new
  done_halts o new does finds rule halts = (
    halts_on old.session.state mid.session.state new.session.state
        (rule_pressed e old.session.state mid.session.state f does.0
        (ap (λ (r : RunningData). r.session.state) does.2) finds rule) halts.0,
    halts.1,
    halts.2 ∙ ap (λ (r : RunningData). r.shelf) does.2,
    halts.3 ∙ ap (λ (r : RunningData). r.number) does.2,
  )

  pub told_halts : (o : Outcome) (new : RunningData) → Tells e old o mid → FindsBy FindsIn o f → IsRule f
      → HaltsFrom mid new → Tells e old outcome.NoMemory new
  told_halts outcome.Done new does finds rule halts = done_halts outcome.Done new does finds rule halts
  told_halts outcome.OutOfOrder new does finds rule halts = done_halts outcome.OutOfOrder new does finds rule halts
  told_halts outcome.Unknown new does finds rule halts = done_halts outcome.Unknown new does finds rule halts
  told_halts outcome.Refused new does finds rule halts = done_halts outcome.Refused new does finds rule halts
  told_halts outcome.NoMemory new does finds rule halts = absurd (no_rule f finds rule)
  told_halts outcome.NoKey new does finds rule halts = done_halts outcome.NoKey new does finds rule halts
  told_halts outcome.NoText new does finds rule halts = done_halts outcome.NoText new does finds rule halts
  told_halts outcome.NotFound new does finds rule halts = done_halts outcome.NotFound new does finds rule halts
  told_halts outcome.BadArguments new does finds rule halts =
      done_halts outcome.BadArguments new does finds rule halts
  told_halts outcome.Trapped new does finds rule halts = done_halts outcome.Trapped new does finds rule halts
  told_halts outcome.Stopped new does finds rule halts = absurd (no_rule f finds rule)

-- ---- a line

-- the state and the shelf behind a line that says an event
event_said : (e : Event) (old mid : RunningData) → DoesSaid (Some (tells (happens e))) old mid
    → (mid.session.state ≡ (next (happens e) old.session.state).state) × (mid.shelf ≡ old.shelf)
event_said e old mid does = (
  ap (λ s. s.state.state) does.2
      ∙ ap (λ (b : Bool). (move_unless b (tells (happens e)) (stand old.session.state old.shelf)).state.state) does.0,
  ap (λ s. s.state.shelf) does.2
      ∙ ap (λ (b : Bool). (move_unless b (tells (happens e)) (stand old.session.state old.shelf)).state.shelf) does.0,
)

line_completes : (said : Option Said) (old mid : RunningData) (f : Found) (before taken : Taken)
    → DoesSaid said old mid → FindsSaid said old.session.state mid.session.state f
    → before ≡ prepared_line said old.session.state → Completes mid.session.state f before taken
    → TakesSaid said old.session.state taken
line_completes None old mid f before taken does finds same h =
    completes_none mid.session.state f before taken finds h ∙ same
line_completes (Some (takes native)) old mid f before taken does finds same h =
    completes_none mid.session.state f before taken finds h ∙ same
line_completes (Some (tells (reload bytes marks))) old mid f before taken does finds same h =
    completes_none mid.session.state f before taken finds h ∙ same
line_completes (Some (tells (register native))) old mid f before taken does finds same h =
    completes_none mid.session.state f before taken finds h ∙ same
line_completes (Some (tells (dispose number))) old mid f before taken does finds same h =
    completes_none mid.session.state f before taken finds h ∙ same
line_completes (Some (tells (types_rule number key command text))) old mid f before taken does finds same h =
    completes_none mid.session.state f before taken finds h ∙ same
line_completes (Some (tells (happens e))) old mid f before taken does finds same h =
    completes e old.session.state mid.session.state f before taken does.0 (event_said e old mid does).0 finds same h

-- memory is refused behind an event that a line says
event_halts : (e : Event) (old mid new : RunningData) (f : Found) → DoesSaid (Some (tells (happens e))) old mid
    → Finds e old.session.state mid.session.state f → IsRule f → HaltsFrom mid new → HaltsInLine old new
event_halts e old mid new f does finds rule halts =
    let is = event_said e old mid does in (
      record {
        running = does.0;
        session = halts_on old.session.state mid.session.state new.session.state
            (rule_pressed e old.session.state mid.session.state f does.0 is.0 finds rule) halts.0;
        shelf = subst (λ (l : List Native). IsPermutation old.shelf l) (sym (halts.2 ∙ is.1))
            (IsPermutation-refl old.shelf);
      },
      halts.1,
    )

line_halts : (said : Option Said) (old mid new : RunningData) (f : Found) → DoesSaid said old mid
    → FindsSaid said old.session.state mid.session.state f → IsRule f → HaltsFrom mid new → HaltsInLine old new
line_halts None old mid new f does finds rule halts = absurd (no_rule f finds rule)
line_halts (Some (takes native)) old mid new f does finds rule halts = absurd (no_rule f finds rule)
line_halts (Some (tells (reload bytes marks))) old mid new f does finds rule halts = absurd (no_rule f finds rule)
line_halts (Some (tells (register native))) old mid new f does finds rule halts = absurd (no_rule f finds rule)
line_halts (Some (tells (dispose number))) old mid new f does finds rule halts = absurd (no_rule f finds rule)
line_halts (Some (tells (types_rule number key command text))) old mid new f does finds rule halts =
    absurd (no_rule f finds rule)
line_halts (Some (tells (happens e))) old mid new f does finds rule halts =
    event_halts e old mid new f does finds rule halts

module _ (said : Option Said) (old mid : RunningData) (f : Found) where
  abbrev FindsInLine : Found → Type 0
  FindsInLine f = FindsSaid said old.session.state mid.session.state f

  pub said_taken : (o : Outcome) (before taken : Taken) → TellsSaid said old o mid → FindsBy FindsInLine o f
      → before ≡ prepared_line said old.session.state → Completes mid.session.state f before taken
      → TakesBy (TakesSaid said old.session.state) o (taken_if o taken)
  said_taken outcome.Done before taken does finds same h =
      line_completes said old mid f before taken does.0 finds same h
  said_taken outcome.NotFound before taken does finds same h =
      line_completes said old mid f before taken does.0 finds same h
  said_taken outcome.BadArguments before taken does finds same h =
      line_completes said old mid f before taken does.0 finds same h
  said_taken outcome.Trapped before taken does finds same h =
      line_completes said old mid f before taken does.0 finds same h
  said_taken outcome.NoMemory before taken does finds same h = refl
  said_taken outcome.Stopped before taken does finds same h = refl
  said_taken outcome.OutOfOrder before taken does finds same h = absurd does
  said_taken outcome.Unknown before taken does finds same h = absurd does
  said_taken outcome.Refused before taken does finds same h = absurd does
  said_taken outcome.NoKey before taken does finds same h = absurd does
  said_taken outcome.NoText before taken does finds same h = absurd does

  pub said_halts : (o : Outcome) (new : RunningData) → TellsSaid said old o mid → FindsBy FindsInLine o f
      → IsRule f → HaltsFrom mid new → TellsSaid said old outcome.NoMemory new
  said_halts outcome.Done new does finds rule halts = line_halts said old mid new f does.0 finds rule halts
  said_halts outcome.NotFound new does finds rule halts = line_halts said old mid new f does.0 finds rule halts
  said_halts outcome.BadArguments new does finds rule halts = line_halts said old mid new f does.0 finds rule halts
  said_halts outcome.Trapped new does finds rule halts = line_halts said old mid new f does.0 finds rule halts
  said_halts outcome.NoMemory new does finds rule halts = absurd (no_rule f finds rule)
  said_halts outcome.Stopped new does finds rule halts = absurd (no_rule f finds rule)
  said_halts outcome.OutOfOrder new does finds rule halts = absurd does
  said_halts outcome.Unknown new does finds rule halts = absurd does
  said_halts outcome.Refused new does finds rule halts = absurd does
  said_halts outcome.NoKey new does finds rule halts = absurd does
  said_halts outcome.NoText new does finds rule halts = absurd does

-- memory is refused before a line is told
pub refused_line : (old new : RunningData) → old.session.state.stopped ≡ false → HaltsFrom old new
    → HaltsInLine old new
refused_line old new running halts = (
  record {
    running = running;
    session = halts.0;
    shelf = subst (λ (l : List Native). IsPermutation old.shelf l) (sym halts.2) (IsPermutation-refl old.shelf);
  },
  halts.1,
)

pub ruleset noted = (told_taken, told_halts, said_taken, said_halts, refused_line)

-- a line that is read is told and takes as its bytes
pub line_told : (n : ℕ) (line : List ℕ) (said : Option Said) (old : RunningData) (o : Outcome) (new : RunningData)
    → n ≡ next_number old.number → said ≡ line_said n line → TellsSaid said old o new → TellsLine line old o new
line_told n line said old o new number is told =
    subst (λ (said : Option Said). TellsSaid said old o new) (is ∙ ap (λ (n : ℕ). line_said n line) number) told

pub line_taken : (n number : ℕ) (line : List ℕ) (said : Option Said) (s : State) (o : Outcome) (t : Taken)
    → n ≡ next_number number → said ≡ line_said n line → TakesBy (TakesSaid said s) o t
    → TakesBy (TakesLine (next_number number) line s) o t
line_taken n number line said s o t next is h =
    subst (λ (said : Option Said). TakesBy (TakesSaid said s) o t) (is ∙ ap (λ (n : ℕ). line_said n line) next) h

pub ruleset lines = (line_told, line_taken, refused_line)
