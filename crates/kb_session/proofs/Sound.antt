-- No input stops a session that is safe, and it stays safe.
use Rattle.std.proofs.Common.{◌≡◌, ◌∙◌, refl, sym, ap, subst, Bool, true, false, List, [], ◌∷◌, ℕ}
use Rattle.std.specs.Prelude.{Option, Some, None, option_map, Result, Ok, Err, if◌then◌else◌, bytes_eq}
use Rattle.std.specs.Prelude.{IfSome, IsTrue, is_some}
use Rattle.serde_json.specs.Data.{Data}
use Rattle.kb_bindings.specs.Sources.{pressed}
use Rattle.kb_code.specs.Handler.{HandlerData}
use Rattle.kb_code.specs.Commands.{Callee, declared_by}
use Rattle.kb_handler_table.specs.Live.{caller_of}
use Rattle.kb_base.specs.declared.refusal.Refusal.{Refusal}
use Rattle.kb_core.specs.Reading.{arguments_for}
use Rattle.kb_core.specs.Signature.{fits}
use Rattle.kb_core.specs.declared.arg.Arg.{Arg}
use Rattle.kb_core.specs.declared.native.Native.{Native}
use Rattle.kb_core.specs.Core.{Core}
use Rattle.kb_core.proofs.ReadFits.{fits-arguments_for}
use Rattle.kb_files.specs.RuleFile.{rules_in}
use Rattle.kb_registry.specs.Live.{Live, callee, disposal_fault, disposal_fault_of, holder}
use Rattle.kb_registry.specs.Live.{registration_fault}
use Rattle.kb_registry.specs.Live.{table_of}
use Rattle.kb_registry.specs.declared.fault.RegistryFault.{RegistryFault}
use Rattle.kb_registry.specs.declared.fault.RegistryFault.TheVariants.{InUse}
use Rattle.kb_resolve.specs.Pressed as press
use Rattle.kb_resolve.specs.Pressed.{Step}
use Rattle.kb_keys.specs.declared.keystroke.Keystroke.{Keystroke}
use Rattle.kb_rules.specs.RuleList.{Listed}
use Rattle.kb_base.specs.declared.note.Origin.TheVariants.{User}
use Rattle.kb_palette.specs.declared.listing.Entry.{Entry}
use Rattle.kb_session.specs.Palette.{entry_at}
use Rattle.kb_session.specs.Press.{press_started, rule_started}
use Rattle.kb_session.specs.State.{State, Told, Stepped, happens, reload, register, dispose, types_rule}
use Rattle.kb_session.specs.State.{rule_typed}
use Rattle.kb_session.specs.State.{taken_unless, refusal_of, reloaded, registering, disposing}
use Rattle.kb_session.specs.State.{disposing_unless, code_updated, disabling_refusal, enabling_refusal}
use Rattle.kb_session.specs.State.{choosing, extension_refusal, is_new, named_in, switched, switched_to, updated}
use Rattle.kb_session.specs.State.{step_on, step_unless, IsSafe, RunsOn}
use Rattle.kb_session.proofs.Stopping.{switched_quiet}
use Rattle.kb_handler_table.specs.Codes.{CodesData}
use Rattle.kb_extension_code.specs.Dependencies.{Placed}
use Rattle.kb_extension_code.specs.Switching.{disable_refusal, enable_refusal}
use Rattle.kb_extension_code.proofs.Closures.{disposed_stays_settled, registered_stays_settled}
use Rattle.kb_extension_code.proofs.NamedLemmas.{named_there}
use Rattle.kb_extension_code.proofs.Switches.{disabled_stays_settled, enabled_stays_settled}
use Rattle.kb_extension_code.proofs.Exchanges.{updated_stays_settled}
use Rattle.kb_soundness.specs.Sound.{IsDone}
use Rattle.kb_soundness.specs.Stays.{IsSound}
use Rattle.kb_soundness.proofs.NeverStuck.{starts_never_stuck}
use Rattle.kb_execute.specs.RunCommands.{Planned, plan_of, run_commands}
use Rattle.kb_execute.specs.Start.{Started, and_then, ran, run_all, run_one, run_plan, start_live, start_of}
use Rattle.kb_execute.specs.Start.{started_as, started_with, stops}
use Rattle.kb_execute.specs.declared.start.Finish.{Finish}
use Rattle.kb_execute.specs.declared.start.Finish.TheVariants.{Done, NotFound, BadArguments, Trapped}
use Rattle.kb_trace.specs.Lines as line
use Rattle.kb_trace.specs.declared.event.Event.{Event}
use Rattle.kb_trace.specs.declared.event.Event.TheVariants as event
use Rattle.kb_vm.specs.Meaning as answer
use Rattle.kb_vm.specs.Meaning.{Answer, first_world, run, run_callee, start_callee}
use Rattle.kb_vm.specs.declared.trap.Trap.TheVariants.{WrongArgument}

-- ---- starts

ran_on : (a : Answer) → IsDone a → stops (ran a).finish ≡ false
ran_on (answer.Done w) done = refl
ran_on (answer.Stuck trap command place w) done = absurd done

then_starts : (f : Finish) (p q : Started) → p.finish ≡ f → stops f ≡ false → stops q.finish ≡ false
    → stops (and_then f p q).finish ≡ false
then_starts Done p q e h k = k
then_starts NotFound p q e h k = ap stops e ∙ h
then_starts BadArguments p q e h k = ap stops e ∙ h
then_starts Trapped p q e h k = ap stops e ∙ h

either : (b : Bool) (p q : Started) → stops p.finish ≡ false → stops q.finish ≡ false
    → stops (if b then p else q).finish ≡ false
either true p q h k = h
either false p q h k = k

module _ (live : Live) (sound : IsSound live) where
  with_starts : (id : List ℕ) (c : Callee) (args : Option (List Arg)) (core : Core) → table_of live id ≡ Some c
      → IfSome args (λ args. IsTrue (fits (declared_by c).params args))
      → stops (started_with (table_of live) id c args core).finish ≡ false
  with_starts id c None core is fit = refl
  with_starts id c (Some args) core is fit =
      let a = run_callee (run (table_of live)) c args (first_world core) in
      let same : start_callee (table_of live) id c args (first_world core) ≡ a =
      ap (λ b. if b then a else answer.Stuck WrongArgument id 0 (first_world core)) fit in
      ran_on a (starts_never_stuck (table_of live) sound.verified id c is args fit core a
      (ap (option_map (λ c. start_callee (table_of live) id c args (first_world core))) is ∙ ap Some same))

  as_starts : (id : List ℕ) (o : Option Callee) (given : Option Data) (core : Core) → table_of live id ≡ o
      → stops (started_as (table_of live) id o given core).finish ≡ false
  as_starts id None given core is = refl
  as_starts id (Some c) given core is =
      with_starts id c (arguments_for (declared_by c).params given) core is
      (fits-arguments_for (declared_by c).params given)

  live_starts : (id : List ℕ) (given : Option Data) (core : Core)
      → stops (start_live id given live core).finish ≡ false
  live_starts id given core = as_starts id (callee id live) given core refl

  all_start : (ps : List Planned) (core : Core) → stops (run_all ps live core).finish ≡ false
  all_start [] core = refl
  all_start (p ∷ ps) core =
      let first = run_one p live core in
      then_starts first.finish first (run_all ps live first.core) refl (live_starts p.command p.given core)
      (all_start ps first.core)

  plan_starts : (ps : Option (List Planned)) (core : Core) → stops (run_plan ps live core).finish ≡ false
  plan_starts None core = refl
  plan_starts (Some ps) core = all_start ps core

  command_starts : (id : List ℕ) (given : Option Data) (core : Core)
      → stops (start_of id given live core).finish ≡ false
  unfolding start_of
  command_starts id given core =
      either (bytes_eq id run_commands) (run_plan (plan_of given) live core) (start_live id given live core)
      (plan_starts (plan_of given) core) (live_starts id given core)

  rule_starts : (text id : List ℕ) (given : Option Data) (core : Core)
      → stops (rule_started text id given live core).finish ≡ false
  rule_starts text [] given core = refl
  rule_starts text (b ∷ bs) given core = command_starts (b ∷ bs) given core

  press_starts : (text : List ℕ) (does : Step) (core : Core)
      → stops (press_started text does live core).finish ≡ false
  press_starts text (press.start rule) core = rule_starts text rule.command rule.args core
  press_starts text press.more core = refl
  press_starts text press.left core = refl
  press_starts text press.unbound core = refl

-- ---- steps

-- a step doesn't stop the session, and it stays safe
abbrev GoesOn : Stepped → Type 0
GoesOn p = (p.state.stopped ≡ false) × IsSafe p.state

-- an extension is enabled, unless that is refused
enabled_safe : (id : List ℕ) (s : State) (p : Option Placed) → named_in id s ≡ p
    → enabling_refusal id s ≡ None → IsSafe s → IsSafe (switched true p s)
enabled_safe id s None is free safe = safe
enabled_safe id s (Some p) is free safe = by (is_new true p.extension)
  where
    why : enable_refusal p.extension s.sources.extensions s.live ≡ None
    why = ap (extension_refusal (λ e. enable_refusal e s.sources.extensions s.live)) (sym is) ∙ free

    by : (b : Bool) → IsSafe (switched_to true (if b then Some (p.place, p.extension.number) else None) s)
    by true =
        enabled_stays_settled s.sources.extensions s.live p.place p.extension
        (named_there id s.sources.extensions p is) why safe
    by false = safe

-- an extension is disabled, unless that is refused
disabled_safe : (id : List ℕ) (s : State) (p : Option Placed) → named_in id s ≡ p
    → disabling_refusal id s ≡ None → IsSafe s → IsSafe (switched false p s)
disabled_safe id s None is free safe = safe
disabled_safe id s (Some p) is free safe = by (is_new false p.extension)
  where
    why : disable_refusal p.extension s.sources.extensions ≡ None
    why = ap (extension_refusal (λ e. disable_refusal e s.sources.extensions)) (sym is) ∙ free

    by : (b : Bool) → IsSafe (switched_to false (if b then Some (p.place, p.extension.number) else None) s)
    by true =
        disabled_stays_settled s.sources.extensions s.live p.place p.extension
        (named_there id s.sources.extensions p is) why safe
    by false = safe

-- an extension gets other code, unless that is refused
updated_goes : (id bytes : List ℕ) (s : State) (p : Option Placed) (r : Result CodesData Refusal)
    → named_in id s ≡ p → code_updated p bytes s ≡ r → s.stopped ≡ false → IsSafe s → GoesOn (updated r p s)
updated_goes id bytes s None (Ok codes) is made running safe = (running, safe)
updated_goes id bytes s (Some p) (Ok codes) is made running safe = (
  running,
  updated_stays_settled s.sources.extensions s.live p.place p.extension bytes codes
      (named_there id s.sources.extensions p is) made safe,
)
updated_goes id bytes s p (Err refusal) is made running safe = (running, safe)

-- an entry of the palette is chosen, if there is one
choosing_goes : (e : Option Entry) (number : ℕ) (s : State) → s.stopped ≡ false → IsSafe s
    → GoesOn (choosing e number s)
choosing_goes (Some e) number s running safe = (command_starts s.live safe.sound e.command None s.core, safe)
choosing_goes None number s running safe = (running, safe)

taken_goes : (refusal : Option Refusal) (e : Event) (s : State) → refusal_of e s ≡ refusal → s.stopped ≡ false
    → IsSafe s → GoesOn (taken_unless refusal e s)
taken_goes (Some refusal) e s is running safe = (running, safe)
taken_goes None (event.Key key) s is running safe = (
  press_starts s.live safe.sound (line.key_text s.pressed key)
      (pressed s.pressed key s.core.scopes s.sources) s.core,
  safe,
)
taken_goes None (event.Focus name) s is running safe = (running, safe)
taken_goes None (event.SetKey name key value) s is running safe = (running, safe)
taken_goes None (event.UnsetKey name key) s is running safe = (running, safe)
taken_goes None (event.Palette query) s is running safe = (running, safe)
taken_goes None (event.Choose number) s is running safe =
    choosing_goes (entry_at number s.listed) number s running safe
taken_goes None (event.Enable id) s is running safe = (
  switched_quiet true (named_in id s) s ∙ running,
  enabled_safe id s (named_in id s) refl is safe,
)
taken_goes None (event.Disable id) s is running safe = (
  switched_quiet false (named_in id s) s ∙ running,
  disabled_safe id s (named_in id s) refl is safe,
)
taken_goes None (event.Update id bytes) s is running safe =
    updated_goes id bytes s (named_in id s) (code_updated (named_in id s) bytes s) refl refl running safe
taken_goes None (event.Unread number) s is running safe = (running, safe)
taken_goes None event.NoClosure s is running safe = (running, safe)

reloaded_goes : (rules : Result Listed Refusal) (s : State) → s.stopped ≡ false → IsSafe s
    → GoesOn (reloaded rules s)
reloaded_goes (Ok user) s running safe = (running, safe)
reloaded_goes (Err refusal) s running safe = (running, safe)

registering_goes : (fault : Option RegistryFault) (native : Native) (s : State) → s.stopped ≡ false
    → IsSafe s → GoesOn (registering fault native s)
registering_goes None native s running safe =
    (running, registered_stays_settled s.sources.extensions s.live native safe)
registering_goes (Some fault) native s running safe = (running, safe)

unless_goes : (caller : Option HandlerData) (native : Native) (number : ℕ) (s : State) → s.stopped ≡ false
    → IsSafe s → holder number s.live ≡ Some native → caller_of native s.live.code ≡ caller
    → GoesOn (disposing_unless caller native number s)
unless_goes None native number s running safe held free =
    let fault : disposal_fault number s.live ≡ None =
    ap (λ o. disposal_fault_of o s.live) held
    ∙ ap (λ (o : Option HandlerData). if is_some o then Some InUse else None) free in
    (running, disposed_stays_settled s.sources.extensions s.live number fault safe)
unless_goes (Some caller) native number s running safe held free = (running, safe)

disposing_goes : (native : Option Native) (number : ℕ) (s : State) → s.stopped ≡ false → IsSafe s
    → holder number s.live ≡ native → GoesOn (disposing native number s)
disposing_goes None number s running safe held = (running, safe)
disposing_goes (Some native) number s running safe held =
    unless_goes (caller_of native s.live.code) native number s running safe held refl

typed_goes : (taken : Bool) (number : ℕ) (key : Keystroke) (command text : List ℕ) (s : State)
    → s.stopped ≡ false → IsSafe s → GoesOn (rule_typed taken number key command text s)
typed_goes true number key command text s running safe = (running, safe)
typed_goes false number key command text s running safe = (running, safe)

step_on_goes : (told : Told) (s : State) → s.stopped ≡ false → IsSafe s → GoesOn (step_on told s)
step_on_goes (happens e) s running safe = taken_goes (refusal_of e s) e s refl running safe
step_on_goes (reload bytes marks) s running safe = reloaded_goes (rules_in marks User bytes) s running safe
step_on_goes (register native) s running safe =
    registering_goes (registration_fault native s.live) native s running safe
step_on_goes (dispose number) s running safe = disposing_goes (holder number s.live) number s running safe refl
step_on_goes (types_rule number key command text) s running safe =
    typed_goes s.takes_rules number key command text s running safe

pub runs_on : RunsOn
runs_on told s running safe =
    subst (λ b. GoesOn (step_unless b told s)) (sym running) (step_on_goes told s running safe)
