-- Only a key press and a choice can stop a running session.
use Rattle.std.specs.Prelude.{⊤}
use Rattle.std.proofs.Common.{◌≡◌, ◌∙◌, Bool, true, false, Option, Some, None, Result, Ok, Err, ℕ, ap, refl}
use Rattle.std.proofs.Common.{length, sym, take, List}
use Rattle.kb_base.specs.declared.refusal.Refusal.{Refusal}
use Rattle.kb_code.specs.Handler.{HandlerData}
use Rattle.kb_core.specs.declared.native.Native.{Native}
use Rattle.kb_files.specs.RuleFile.{rules_in}
use Rattle.kb_handler_table.specs.Live.{caller_of}
use Rattle.kb_registry.specs.Live.{registration_fault, holder}
use Rattle.kb_registry.specs.declared.fault.RegistryFault.{RegistryFault}
use Rattle.kb_rules.specs.RuleList.{Listed}
use Rattle.kb_base.specs.declared.note.Origin.TheVariants.{User}
use Rattle.kb_keys.specs.declared.keystroke.Keystroke.{Keystroke}
use Rattle.kb_session.specs.Session.{Answers, Does, half_done, halt, HalfDone, HaltsAt, IsHalf, Takes, Undone}
use Rattle.kb_session.specs.State.{State, Told, happens, reload, register, dispose, types_rule, Answered, step_on, step_unless}
use Rattle.kb_session.specs.State.{out_of, taken_unless, refusal_of, reloaded, registering, disposing}
use Rattle.kb_session.specs.State.{disposing_unless, code_updated, named_in, switched, switched_to}
use Rattle.kb_session.specs.State.{rule_typed, switch_target, updated}
use Rattle.kb_handler_table.specs.Codes.{CodesData}
use Rattle.kb_extension_code.specs.Dependencies.{Placed}
use Rattle.kb_stream.specs.Fold.{after, Traced}
use Rattle.kb_trace.specs.declared.event.Answer.{Answer}
use Rattle.kb_trace.specs.declared.event.Event.{Event}
use Rattle.kb_trace.specs.declared.event.Event.TheVariants as event

-- the input is neither a key press nor a choice
abbrev pub IsQuiet : Told → Type 0
IsQuiet (happens (event.Key key)) = ⊥
IsQuiet (happens (event.Choose number)) = ⊥
IsQuiet told = ⊤

pub switched_quiet : (enabled : Bool) (p : Option Placed) (s : State) → (switched enabled p s).stopped ≡ s.stopped
switched_quiet enabled p s = by (switch_target enabled p)
  where
    by : (target : Option (ℕ × ℕ)) → (switched_to enabled target s).stopped ≡ s.stopped
    by None = refl
    by (Some target) = refl

updated_quiet : (r : Result CodesData Refusal) (p : Option Placed) (s : State)
    → (updated r p s).state.stopped ≡ s.stopped
updated_quiet (Ok codes) None s = refl
updated_quiet (Ok codes) (Some p) s = refl
updated_quiet (Err refusal) p s = refl

taken_quiet : (refusal : Option Refusal) (e : Event) (s : State) → IsQuiet (happens e)
    → (taken_unless refusal e s).state.stopped ≡ s.stopped
taken_quiet (Some refusal) e s quiet = refl
taken_quiet None (event.Key key) s quiet = absurd quiet
taken_quiet None (event.Focus name) s quiet = refl
taken_quiet None (event.SetKey name key value) s quiet = refl
taken_quiet None (event.UnsetKey name key) s quiet = refl
taken_quiet None (event.Palette query) s quiet = refl
taken_quiet None (event.Choose number) s quiet = absurd quiet
taken_quiet None (event.Enable id) s quiet = switched_quiet true (named_in id s) s
taken_quiet None (event.Disable id) s quiet = switched_quiet false (named_in id s) s
taken_quiet None (event.Update id bytes) s quiet =
    updated_quiet (code_updated (named_in id s) bytes s) (named_in id s) s
taken_quiet None (event.Unread number) s quiet = refl
taken_quiet None event.NoClosure s quiet = refl

reloaded_quiet : (rules : Result Listed Refusal) (s : State) → (reloaded rules s).state.stopped ≡ s.stopped
reloaded_quiet (Ok user) s = refl
reloaded_quiet (Err refusal) s = refl

registering_quiet : (fault : Option RegistryFault) (native : Native) (s : State)
    → (registering fault native s).state.stopped ≡ s.stopped
registering_quiet None native s = refl
registering_quiet (Some fault) native s = refl

disposing_quiet : (caller : Option HandlerData) (native : Native) (number : ℕ) (s : State)
    → (disposing_unless caller native number s).state.stopped ≡ s.stopped
disposing_quiet None native number s = refl
disposing_quiet (Some caller) native number s = refl

held_quiet : (o : Option Native) (number : ℕ) (s : State) → (disposing o number s).state.stopped ≡ s.stopped
held_quiet None number s = refl
held_quiet (Some native) number s = disposing_quiet (caller_of native s.live.code) native number s

typed_quiet : (taken : Bool) (number : ℕ) (key : Keystroke) (command text : List ℕ) (s : State)
    → (rule_typed taken number key command text s).state.stopped ≡ s.stopped
typed_quiet true number key command text s = refl
typed_quiet false number key command text s = refl

-- so the step of any other input leaves a running session running
step_quiet : (told : Told) (s : State) → IsQuiet told → (step_on told s).state.stopped ≡ s.stopped
step_quiet (happens e) s quiet = taken_quiet (refusal_of e s) e s quiet
step_quiet (reload bytes marks) s quiet = reloaded_quiet (rules_in marks User bytes) s
step_quiet (register native) s quiet = registering_quiet (registration_fault native s.live) native s
step_quiet (dispose number) s quiet = held_quiet (holder number s.live) number s
step_quiet (types_rule number key command text) s quiet = typed_quiet s.takes_rules number key command text s

-- the same of a call that handled an input
pub does_quietly : (told : Told) (old new : Traced State) (a : Answer) → IsQuiet told → Does told old a new
    → new.state.stopped ≡ old.state.stopped
does_quietly told old new a quiet does = ap (λ s. s.state.stopped) does.1 ∙ step_quiet told old.state quiet

pub answers_quietly : (told : Told) (old new : Traced State) (a : Answered) → IsQuiet told → Answers told old a new
    → new.state.stopped ≡ false
answers_quietly told old new a quiet answers =
    ap (λ s. s.state.stopped) answers.2
    ∙ ap (λ b. (out_of (step_unless b told old.state)).state.stopped) answers.0
    ∙ step_quiet told old.state quiet ∙ answers.0

pub ruleset stopping = (does_quietly)

-- ---- a call takes an event, or is refused memory

pub takes_done : (told : Told) (old new : Traced State) (a : Answer) → old.state.stopped ≡ false
    → Does told old a new → Takes told old a new
takes_done told old new a running does = (
  running,
  ap (λ b. (step_unless b told old.state).answer) running ∙ does.0,
  does.1 ∙ ap (λ b. after (out_of (step_unless b told old.state)) old) (sym running),
)

-- the lines of an incomplete event are taken back
abbrev IsCut : Traced State → Traced State → Traced State → Type 0
IsCut old mid new = new ≡ halt (record mid { trace = take (length old.trace) mid.trace })

undone : (old mid new : Traced State) → Undone old mid → IsCut old mid new → new ≡ halt old
undone old mid new h is =
    is ∙ λ i. halt (record { state = h.0 i; trace = h.1 i })

pub half_halts : (e : Event) (old mid new : Traced State) → IsHalf e old mid → IsCut old mid new
    → HaltsAt (happens e) old new
half_halts (event.Key key) old mid new h is = (
  ap (λ s. s.state) is ∙ ap (λ (s : State). record s { stopped = true }) h.0
      ∙ ap (λ (s : Traced State). half_done s.state.core s.state.pressed old.state) (sym is),
  ap (λ s. s.trace) is ∙ h.1,
)
half_halts (event.Choose number) old mid new h is = (
  ap (λ s. s.state) is ∙ ap (λ (s : State). record s { stopped = true }) h.0
      ∙ ap (λ (s : Traced State). half_done s.state.core old.state.pressed old.state) (sym is),
  ap (λ s. s.trace) is ∙ h.1,
)
half_halts (event.Focus name) old mid new h is = undone old mid new h is
half_halts (event.SetKey name key value) old mid new h is = undone old mid new h is
half_halts (event.UnsetKey name key) old mid new h is = undone old mid new h is
half_halts (event.Palette query) old mid new h is = undone old mid new h is
half_halts (event.Enable id) old mid new h is = undone old mid new h is
half_halts (event.Disable id) old mid new h is = undone old mid new h is
half_halts (event.Update id bytes) old mid new h is = undone old mid new h is
half_halts (event.Unread number) old mid new h is = undone old mid new h is
half_halts event.NoClosure old mid new h is = undone old mid new h is

pub ruleset taking = (takes_done, half_halts)

-- the same for a key press
pub press_halts : (key : Keystroke) (old mid new : Traced State) → HalfDone old mid → IsCut old mid new
    → HaltsAt (happens (event.Key key)) old new
press_halts key old mid new h is = half_halts (event.Key key) old mid new h is

pub ruleset pressing = (press_halts)
