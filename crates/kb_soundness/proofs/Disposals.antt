-- The end of a registration keeps each callee of a live handler live.
use Rattle.std.proofs.Common.{◌≡◌, ℕ, zero, suc, Bool, true, false, cond, List, [], ◌∷◌, length, get_or}
use Rattle.std.proofs.Common.{Option, Some, None, refl, sym, ap, ◌∙◌, find, map, is_some, if◌then◌else◌}
use Rattle.std.specs.Prelude.{slice_get, option_map, ◌||◌, nat_eq, bytes_eq}
use Rattle.std.specs.List.{list_any}
use Rattle.kb_core.specs.declared.native.Native.{Native}
use Rattle.kb_core.specs.Native.{named}
use Rattle.kb_code.specs.Callees.{callees_of}
use Rattle.kb_code.specs.Handler.{HandlerData}
use Rattle.kb_code.specs.Reachable.{Calls}
use Rattle.kb_code.proofs.ReachableLemmas.{all_called}
use Rattle.kb_code.specs.Commands.{Callee, Plain}
use Rattle.kb_handler_table.specs.Live.{live_in, same_native, is_it, calls_native, caller_of}
use Rattle.kb_code.specs.Target as target
use Rattle.kb_registry.specs.declared.fault.RegistryFault.TheVariants.{InUse}
use Rattle.kb_registry.specs.Live.{Live, Registered, natives_of, holder, holder_in, without, disposed}
use Rattle.kb_registry.specs.Live.{disposal_fault_of, callee_by, table_of}
use Rattle.kb_soundness.specs.Stays.{DisposedStaysSound}
use Rattle.kb_verify.proofs.Edges.{reach_within}
use Rattle.kb_soundness.proofs.Callees.{among}
use Rattle.kb_soundness.proofs.Stays.{declared_stays, coded_by, coded_live}

-- ---- callees

native_at : (calls : List (List ℕ)) (n : ℕ) (name : List ℕ) → slice_get calls n ≡ Some name →
    get_or (map named calls) n None ≡ named name
native_at [] n name e = absurd (cc)
native_at (x ∷ calls) zero name e = let same : x ≡ name = cc in ap named same
native_at (x ∷ calls) (suc n) name e = native_at calls n name e

-- a handler that doesn't call the native has no call with its name
not_called : (native : Native) (h : HandlerData) (p n : ℕ) (name : List ℕ) → calls_native native h ≡ false →
    Calls h p n → slice_get h.calls n ≡ Some name → is_it native (named name) ≡ false
not_called native h p n name none c is =
    sym (ap (is_it native) (native_at h.calls n name is))
    ∙ among h (λ n. is_it native (get_or (target.natives_of h) n None)) (length h.code) (callees_of h)
    (all_called h)
    none p n (reach_within h.code p c.reached) c

-- ---- natives

-- another native is live after the registration ended exactly if it was live before
live_without : (n native : Native) (t : ℕ) (cs : List Registered) → same_native n native ≡ false →
    holder_in t cs ≡ Some native →
    list_any (same_native n) (natives_of (without t cs)) ≡ list_any (same_native n) (natives_of cs)
live_without n native t [] other held = refl
live_without n native t (c ∷ cs) other held = by (nat_eq c.ticket t) held (live_without n native t cs other)
  where
    by : (b : Bool) →
        option_map (λ (c : Registered). c.native) (cond b (Some c) (find (λ c. nat_eq c.ticket t) cs))
        ≡ Some native →
        (holder_in t cs ≡ Some native →
        list_any (same_native n) (natives_of (without t cs)) ≡ list_any (same_native n) (natives_of cs)) →
        list_any (same_native n) (natives_of (cond b cs (c ∷ without t cs)))
        ≡ list_any (same_native n) (natives_of (c ∷ cs))
    by true held rest =
        let same : c.native ≡ native = cc in
        sym (ap (λ b. b || list_any (same_native n) (natives_of cs)) (ap (same_native n) same ∙ other))
    by false held rest = ap (λ b. same_native n c.native || b) (rest held)

-- a command with another name than the native's stays live
stays : (native : Native) (t : ℕ) (live : Live) → holder t live ≡ Some native → (o : Option Native)
    (name : List ℕ) (c : Callee) → is_it native o ≡ false → callee_by o name live ≡ Some c →
    callee_by o name (disposed t live) ≡ Some c
stays native t live held None name c other e = e
stays native t live held (Some n) name c other e =
    ap (λ b. option_map Plain (if b then Some n else None))
    (live_without n native t live.commands other held) ∙ e

-- ---- handlers

-- an element that passes one test fails another test that no element passes
pub fails : (p q : HandlerData → Bool) (hs : List HandlerData) (h : HandlerData) → find p hs ≡ None →
    find q hs ≡ Some h → p h ≡ false
fails p q [] h none found = absurd (cc)
fails p q (x ∷ hs) h none found = by (p x) refl none (q x) found (fails p q hs h)
  where
    by : (a : Bool) → p x ≡ a → cond a (Some x) (find p hs) ≡ None → (b : Bool) →
        cond b (Some x) (find q hs) ≡ Some h → (find p hs ≡ None → find q hs ≡ Some h → p h ≡ false) →
        p h ≡ false
    by true is none b found rest = absurd (cc)
    by false is none true found rest = let same : x ≡ h = cc in sym (ap p same) ∙ is
    by false is none false found rest = rest none found

no_caller : (o : Option HandlerData) → (if is_some o then Some InUse else None) ≡ None → o ≡ None
no_caller None e = refl
no_caller (Some h) e = absurd (cc)

-- a registration can be ended only if no live handler calls its native
disposal_is : (o : Option Native) (live : Live) → disposal_fault_of o live ≡ None →
    (native : Native) × (o ≡ Some native) × (caller_of native live.code ≡ None)
disposal_is None live e = absurd (cc)
disposal_is (Some native) live e = (native, refl, no_caller (caller_of native live.code) e)

pub disposed_stays_sound : DisposedStaysSound
disposed_stays_sound t live free sound = record {
  checked = sound.checked;
  apart = sound.apart;
  free = sound.free;
  verified = λ name h e.
      let is = coded_by (named name) name (disposed t live) h e in
      let v = sound.verified name h (coded_live name live h is.0 is.1) in
      let gone = disposal_is (holder t live) live free in
      let none = fails (calls_native gone.0) (λ g. bytes_eq name g.command)
      (live_in live.code) h gone.2 is.1 in
      record {
        commands = v.commands;
        accepted = v.accepted;
        callees = λ p n d c. declared_stays (table_of live) (table_of (disposed t live)) (slice_get h.calls n)
            (λ called callee its. stays gone.0 t live gone.1 (named called) called callee
            (not_called gone.0 h p n called none c.calls its)) d (v.callees p n d c);
      };
}
