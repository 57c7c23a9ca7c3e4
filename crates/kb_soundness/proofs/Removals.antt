-- The removal of an extension's code keeps each callee of another live handler live.
use Rattle.std.proofs.Common.{◌≡◌, ◌∙◌, ℕ, Bool, true, false, cond, List, [], ◌∷◌, ◌++◌, length, Option, Some}
use Rattle.std.proofs.Common.{None, refl, sym, ap, is_some, bytes_eq, nat_eq}
use Rattle.std.specs.Prelude.{slice_get, option_map}
use Rattle.std.proofs.lemmas.Bool.{false≢true}
use Rattle.kb_core.specs.declared.native.Native.{Native}
use Rattle.kb_core.specs.Native.{named}
use Rattle.kb_code.specs.Callees.{callees_of}
use Rattle.kb_code.specs.Commands.{Callee, Coded}
use Rattle.kb_code.specs.Handler.{HandlerData, handler_named}
use Rattle.kb_code.specs.Reachable.{Calls}
use Rattle.kb_code.proofs.ReachableLemmas.{all_called}
use Rattle.kb_handler_table.specs.Live.{Group, calls_one, checked_handlers, handlers_in, handlers_of, live_in}
use Rattle.kb_handler_table.specs.Live.{live_of, names_one, user_of, without_group}
use Rattle.kb_handler_table.proofs.Apart.{found_before, live_after, live_before, without_stays}
use Rattle.kb_registry.specs.declared.fault.RegistryFault.TheVariants.{InUse}
use Rattle.kb_registry.specs.Live.{Live, callee_by, table_of, without_code}
use Rattle.kb_soundness.specs.Stays.{AllChecked, AreFree, CodeDisposedStaysSound}
use Rattle.kb_soundness.proofs.Callees.{among}
use Rattle.kb_soundness.proofs.Disposals.{fails}
use Rattle.kb_verify.proofs.Edges.{reach_within}
use Rattle.kb_soundness.proofs.Stays.{coded_by, coded_live, declared_stays}

-- all remaining code is verified
checked_fewer : (extension : ℕ) (gs : List Group) → AllChecked gs → AllChecked (without_group extension gs)
checked_fewer extension [] checked = checked
checked_fewer extension (g ∷ gs) checked =
    by (nat_eq g.extension extension) (checked_fewer extension gs checked.1)
  where
    by : (b : Bool) → AllChecked (without_group extension gs) →
        AllChecked (cond b gs (g ∷ without_group extension gs))
    by true rest = checked.1
    by false rest = (checked.0, rest)

-- verified handlers are all handlers
all_checked : (gs : List Group) → AllChecked gs → checked_handlers gs ≡ live_in gs
all_checked [] checked = refl
all_checked (g ∷ gs) checked =
    ap (λ hs. cond g.live hs [] ++ checked_handlers gs) checked.0 ∙ ap (λ hs. live_of g ++ hs) (all_checked gs checked.1)

no_user : (o : Option HandlerData) → option_map (λ (h : HandlerData). InUse) o ≡ None → o ≡ None
no_user None e = refl
no_user (Some h) e = absurd (cc)

unnamed : (own : List HandlerData) (name : List ℕ) → is_some (handler_named name own) ≡ false →
    handler_named name own ≡ None
unnamed own name is = by (handler_named name own) refl is
  where
    by : (o : Option HandlerData) → handler_named name own ≡ o → is_some o ≡ false → handler_named name own ≡ None
    by None e is = e
    by (Some h) e is = absurd (false≢true (sym is))

module _ (extension : ℕ) (live : Live) where
  abbrev own : List HandlerData
  own = handlers_of extension live.code

  -- a handler that calls none of the extension's handlers has no call with the name of one
  not_named : (h : HandlerData) (p n : ℕ) (name : List ℕ) → calls_one own h ≡ false → Calls h p n →
      slice_get h.calls n ≡ Some name → handler_named name own ≡ None
  not_named h p n name none c is =
      unnamed own name (sym (ap (names_one own) is)
      ∙ among h (λ n. names_one own (slice_get h.calls n)) (length h.code) (callees_of h) (all_called h) none p n
      (reach_within h.code p c.reached) c)

  -- a command that isn't one of them stays live
  stays : (o : Option Native) (name : List ℕ) (c : Callee) → handler_named name own ≡ None →
      callee_by o name live ≡ Some c → callee_by o name (without_code extension live) ≡ Some c
  stays (Some n) name c none e = e
  stays None name c none e = by (handler_named name (live_in live.code)) refl e
    where
      by : (o : Option HandlerData) → handler_named name (live_in live.code) ≡ o →
          option_map Coded o ≡ Some c →
          option_map Coded (handler_named name (live_in (without_group extension live.code))) ≡ Some c
      by None is e = absurd (cc)
      by (Some h) is e = ap (option_map Coded) (live_after extension live.code name h none is) ∙ e

-- no native's name finds a handler
free_fewer : (extension : ℕ) (live : Live) → (find_before : (name : List ℕ) (h : HandlerData) →
    handler_named name (handlers_in (without_group extension live.code)) ≡ Some h →
    handler_named name (handlers_in live.code) ≡ Some h) → AreFree live.code →
    AreFree (without_group extension live.code)
free_fewer extension live before free name native is =
    by (handler_named name (handlers_in (without_group extension live.code))) refl
  where
    by : (o : Option HandlerData) → handler_named name (handlers_in (without_group extension live.code)) ≡ o →
        handler_named name (handlers_in (without_group extension live.code)) ≡ None
    by None e = e
    by (Some h) e = let none = free name native is in let some = before name h e in absurd (cc)

pub code_disposed_stays_sound : CodeDisposedStaysSound
code_disposed_stays_sound extension live fault sound = record {
  checked = checked_fewer extension live.code sound.checked;
  apart = without_stays extension live.code (without_group extension live.code) sound.apart refl;
  free = free_fewer extension live (λ name h. found_before extension live.code name h sound.apart) sound.free;
  verified = λ name h e.
      let is = coded_by (named name) name (without_code extension live) h e in
      let v = sound.verified name h (coded_live name live h is.0
      (live_before extension live.code name h sound.apart is.1)) in
      let left = without_group extension live.code in
      let none = fails (calls_one (handlers_of extension live.code)) (λ g. bytes_eq name g.command)
      (checked_handlers left) h (no_user (user_of extension live.code) fault)
      (ap (handler_named name) (all_checked left (checked_fewer extension live.code sound.checked)) ∙ is.1) in
      record {
        commands = v.commands;
        accepted = v.accepted;
        callees = λ p n d c. declared_stays (table_of live) (table_of (without_code extension live))
            (slice_get h.calls n)
            (λ called callee its. stays extension live (named called) called callee
            (not_named extension live h p n called none c.calls its)) d (v.callees p n d c);
      };
}
