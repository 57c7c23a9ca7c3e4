-- The lists of unread patterns of a session: each successful reload adds one, and none changes.
use Rattle.std.proofs.Common.{◌≡◌, ℕ, Bool, true, false, List, [], ◌∷◌, ◌++◌, refl, sym, ap, ◌∙◌, append-nil}
use Rattle.std.proofs.Common.{append_assoc}
use Rattle.std.specs.Prelude.{Option, Some, None, Result, Ok, Err}
use Rattle.kb_base.specs.declared.refusal.Refusal.{Refusal}
use Rattle.kb_files.specs.RuleFile.{rules_in}
use Rattle.kb_keys.specs.declared.keystroke.Keystroke.{Keystroke}
use Rattle.kb_rules.specs.RuleList.{Listed}
use Rattle.kb_base.specs.declared.note.Origin.TheVariants.{User}
use Rattle.kb_palette.specs.declared.listing.Entry.{Entry}
use Rattle.kb_session.specs.Palette.{entry_at}
use Rattle.kb_session.specs.Session.{Halts}
use Rattle.kb_core.specs.declared.native.Native.{Native}
use Rattle.kb_registry.specs.Live.{registration_fault, holder}
use Rattle.kb_registry.specs.declared.fault.RegistryFault.{RegistryFault}
use Rattle.kb_session.specs.State.{State, Told, happens, reload, register, dispose, types_rule, step, step_on}
use Rattle.kb_session.specs.State.{step_unless}
use Rattle.kb_session.specs.State.{next, taken_unless, reloaded, refusal_of, registering, disposing}
use Rattle.kb_session.specs.State.{disposing_unless, code_updated, named_in, switched, switched_to}
use Rattle.kb_session.specs.State.{choosing, rule_typed, switch_target, updated}
use Rattle.kb_handler_table.specs.Codes.{CodesData}
use Rattle.kb_extension_code.specs.Dependencies.{Placed}
use Rattle.kb_code.specs.Handler.{HandlerData}
use Rattle.kb_handler_table.specs.Live.{caller_of}
use Rattle.kb_base.specs.declared.note.EntryPattern.{EntryPattern}
use Rattle.kb_stream.specs.Fold.{fold}
use Rattle.kb_trace.specs.declared.event.Event.{Event}
use Rattle.kb_trace.specs.declared.event.Event.TheVariants as event

switched_lists : (enabled : Bool) (p : Option Placed) (s : State) → (switched enabled p s).unread ≡ s.unread
switched_lists enabled p s = by (switch_target enabled p)
  where
    by : (target : Option (ℕ × ℕ)) → (switched_to enabled target s).unread ≡ s.unread
    by None = refl
    by (Some target) = refl

updated_lists : (r : Result CodesData Refusal) (p : Option Placed) (s : State)
    → (updated r p s).state.unread ≡ s.unread
updated_lists (Ok codes) None s = refl
updated_lists (Ok codes) (Some p) s = refl
updated_lists (Err refusal) p s = refl

choosing_lists : (e : Option Entry) (number : ℕ) (s : State) → (choosing e number s).state.unread ≡ s.unread
choosing_lists None number s = refl
choosing_lists (Some e) number s = refl

-- an event adds no list
event_lists : (refusal : Option Refusal) (e : Event) (s : State) → (taken_unless refusal e s).state.unread ≡ s.unread
event_lists (Some refusal) e s = refl
event_lists None (event.Key key) s = refl
event_lists None (event.Focus name) s = refl
event_lists None (event.SetKey name key value) s = refl
event_lists None (event.UnsetKey name key) s = refl
event_lists None (event.Palette query) s = refl
event_lists None (event.Choose number) s = choosing_lists (entry_at number s.listed) number s
event_lists None (event.Enable id) s = switched_lists true (named_in id s) s
event_lists None (event.Disable id) s = switched_lists false (named_in id s) s
event_lists None (event.Update id bytes) s =
    updated_lists (code_updated (named_in id s) bytes s) (named_in id s) s
event_lists None event.NoClosure s = refl
event_lists None (event.Unread number) s = refl

-- the old lists, and then more
pub record Grows (old new : List (List EntryPattern)) : Type 0 where
  pub more : List (List EntryPattern)
  pub is : new ≡ old ++ more

same_grows : (old new : List (List EntryPattern)) → new ≡ old → Grows old new
same_grows old new same = record { more = []; is = same ∙ sym (append-nil old) }

reload_grows : (rules : Result Listed Refusal) (s : State) → Grows s.unread (reloaded rules s).state.unread
reload_grows (Ok user) s = record { more = user.unread ∷ []; is = refl }
reload_grows (Err refusal) s = same_grows s.unread s.unread refl

register_lists : (fault : Option RegistryFault) (native : Native) (s : State)
    → (registering fault native s).state.unread ≡ s.unread
register_lists None native s = refl
register_lists (Some fault) native s = refl

unless_lists : (caller : Option HandlerData) (native : Native) (number : ℕ) (s : State)
    → (disposing_unless caller native number s).state.unread ≡ s.unread
unless_lists None native number s = refl
unless_lists (Some caller) native number s = refl

dispose_lists : (native : Option Native) (number : ℕ) (s : State)
    → (disposing native number s).state.unread ≡ s.unread
dispose_lists None number s = refl
dispose_lists (Some native) number s = unless_lists (caller_of native s.live.code) native number s

typed_lists : (taken : Bool) (number : ℕ) (key : Keystroke) (command text : List ℕ) (s : State)
    → (rule_typed taken number key command text s).state.unread ≡ s.unread
typed_lists true number key command text s = refl
typed_lists false number key command text s = refl

on_grows : (told : Told) (s : State) → Grows s.unread (step_on told s).state.unread
on_grows (happens e) s = same_grows s.unread (step_on (happens e) s).state.unread (event_lists (refusal_of e s) e s)
on_grows (reload bytes marks) s = reload_grows (rules_in marks User bytes) s
on_grows (register native) s =
    same_grows s.unread (step_on (register native) s).state.unread
    (register_lists (registration_fault native s.live) native s)
on_grows (dispose number) s =
    same_grows s.unread (step_on (dispose number) s).state.unread
    (dispose_lists (holder number s.live) number s)
on_grows (types_rule number key command text) s =
    same_grows s.unread (step_on (types_rule number key command text) s).state.unread
    (typed_lists s.takes_rules number key command text s)

unless_grows : (stopped : Bool) (told : Told) (s : State) → Grows s.unread (step_unless stopped told s).state.unread
unless_grows true told s = same_grows s.unread s.unread refl
unless_grows false told s = on_grows told s

-- one step keeps the lists
pub step_grows : (told : Told) (s : State) → Grows s.unread (step told s).state.unread
step_grows told s = unless_grows s.stopped told s

grows_on : (a b c : List (List EntryPattern)) → Grows a b → Grows b c → Grows a c
grows_on a b c p q = record {
  more = p.more ++ q.more;
  is = q.is ∙ ap (λ (lists : List (List EntryPattern)). lists ++ q.more) p.is ∙ append_assoc a p.more q.more;
}

-- and so does a run
pub run_grows : (told : List Told) (s : State) → Grows s.unread (fold next told s).state.unread
run_grows [] s = same_grows s.unread s.unread refl
run_grows (one ∷ told) s =
    grows_on s.unread (next one s).state.unread (fold next told (next one s).state).state.unread
    (step_grows one s) (run_grows told (next one s).state)

-- refused memory adds no list
pub halt_keeps : (old new : State) → Halts old new → new.unread ≡ old.unread
halt_keeps old new halts = ap (λ (s : State). s.unread) halts
