-- Live commands stay live, so verified handlers stay verified; registrations keep commands live.
use Rattle.std.proofs.Common.{◌≡◌, ℕ, ◌+◌, Bool, true, false, List, [], ◌∷◌, ◌++◌, Option, Some, None, refl}
use Rattle.std.proofs.Common.{ap, sym, subst, ◌∙◌, if◌then◌else◌}
use Rattle.std.specs.Prelude.{slice_get, option_map, option_and_then}
use Rattle.std.specs.List.{list_any}
use Rattle.kb_core.specs.declared.native.Native.{Native}
use Rattle.kb_core.specs.Declaration.{Declaration}
use Rattle.kb_core.specs.Native.{named}
use Rattle.kb_code.specs.Handler.{HandlerData, handler_named}
use Rattle.kb_code.specs.Commands.{Callee, Plain, Coded, Table, declared_by}
use Rattle.kb_handler_table.specs.Live.{handlers_in, live_in, same_native}
use Rattle.kb_registry.specs.Live.{Live, Registered, natives_of, is_live, callee_by, table_of, fresh}
use Rattle.kb_registry.specs.Live.{registered}
use Rattle.kb_soundness.specs.Sound.{IsVerified}
use Rattle.kb_handler_table.specs.Apart.{AreApart}
use Rattle.kb_soundness.specs.Stays.{AllChecked, AreFree, IsSound, FreshIsSound, RegisteredStaysSound}
use Rattle.kb_soundness.proofs.Tests.{or_stays}

-- ---- from one table to another

-- the declaration of a name stays if its live command does
pub declared_stays : (old new : Table) (o : Option (List ℕ)) →
    ((name : List ℕ) (c : Callee) → o ≡ Some name → old name ≡ Some c → new name ≡ Some c) →
    (d : Declaration) →
    option_map declared_by (option_and_then old o) ≡ Some d →
    option_map declared_by (option_and_then new o) ≡ Some d
declared_stays old new None stays d e = absurd (cc)
declared_stays old new (Some name) stays d e = by (old name) refl e
  where
    by : (o : Option Callee) → old name ≡ o → option_map declared_by o ≡ Some d →
        option_map declared_by (new name) ≡ Some d
    by None is e = absurd (cc)
    by (Some c) is e = ap (option_map declared_by) (stays name c refl is) ∙ e

-- each live command stays live
abbrev pub Stays : Table → Table → Type 0
Stays old new = (name : List ℕ) (c : Callee) → old name ≡ Some c → new name ≡ Some c

pub verified_stays : (old new : Table) → Stays old new → (h : HandlerData) → IsVerified old h →
    IsVerified new h
verified_stays old new stays h v = record {
  commands = v.commands;
  accepted = v.accepted;
  callees = λ p n d c. declared_stays old new (slice_get h.calls n) (λ name c is. stays name c) d
      (v.callees p n d c);
}

-- ---- live handlers

coded_inj : (g h : HandlerData) → Some (Coded g) ≡ Some (Coded h) → g ≡ h
coded_inj g h e = cc

coded_name : (o : Option HandlerData) (h : HandlerData) → option_map Coded o ≡ Some (Coded h) → o ≡ Some h
coded_name None h e = absurd (cc)
coded_name (Some g) h e = ap Some (coded_inj g h e)

no_plain : (n : Native) (b : Bool) (h : HandlerData) →
    option_map Plain (if b then Some n else None) ≡ Some (Coded h) → ⊥
no_plain n true h e = absurd (cc)
no_plain n false h e = absurd (cc)

-- a live handler has no native's name, and its name finds it
pub coded_by : (o : Option Native) (name : List ℕ) (live : Live) (h : HandlerData) →
    callee_by o name live ≡ Some (Coded h) →
    (o ≡ None) × (handler_named name (live_in live.code) ≡ Some h)
coded_by None name live h e = (refl, coded_name (handler_named name (live_in live.code)) h e)
coded_by (Some n) name live h e = absurd (no_plain n (is_live n live) h e)

-- a handler that its name finds is live, if no native has the name
pub coded_live : (name : List ℕ) (live : Live) (h : HandlerData) → named name ≡ None →
    handler_named name (live_in live.code) ≡ Some h → table_of live name ≡ Some (Coded h)
coded_live name live h none found = ap (λ o. callee_by o name live) none ∙ ap (option_map Coded) found

-- ---- registrations

live_more : (n : Native) (cs : List Registered) (r : Registered) →
    list_any (same_native n) (natives_of cs) ≡ true →
    list_any (same_native n) (natives_of (cs ++ r ∷ [])) ≡ true
live_more n [] r e = absurd (cc)
live_more n (c ∷ cs) r e =
    or_stays (same_native n c.native) (list_any (same_native n) (natives_of cs)) _ (live_more n cs r) e

-- a live native stays live
plain_stays : (n : Native) (a b : Bool) (c : Callee) → (a ≡ true → b ≡ true) →
    option_map Plain (if a then Some n else None) ≡ Some c →
    option_map Plain (if b then Some n else None) ≡ Some c
plain_stays n true b c stays e = ap (λ b. option_map Plain (if b then Some n else None)) (stays refl) ∙ e
plain_stays n false b c stays e = absurd (cc)

registered_stays : (native : Native) (live : Live) (o : Option Native) (name : List ℕ) (c : Callee) →
    callee_by o name live ≡ Some c → callee_by o name (registered native live) ≡ Some c
registered_stays native live None name c e = e
registered_stays native live (Some n) name c e =
    plain_stays n (is_live n live) (is_live n (registered native live)) c
    (live_more n live.commands (record { native = native; ticket = live.made + 1 })) e

-- a change of closures alone that keeps live commands live keeps a registry sound
pub same_code_sound : (old new : Live) → new.code ≡ old.code → Stays (table_of old) (table_of new) →
    IsSound old → IsSound new
same_code_sound old new same stays sound = record {
  checked = subst AllChecked (sym same) sound.checked;
  apart = subst (λ gs. AreApart (handlers_in gs)) (sym same) sound.apart;
  free = subst AreFree (sym same) sound.free;
  verified = λ name h e.
      let is = coded_by (named name) name new h e in
      verified_stays (table_of old) (table_of new) stays h
      (sound.verified name h (coded_live name old h is.0
      (ap (λ gs. handler_named name (live_in gs)) (sym same) ∙ is.1)));
}

pub registered_stays_sound : RegisteredStaysSound
registered_stays_sound native live sound =
    same_code_sound live (registered native live) refl
    (λ name c e. registered_stays native live (named name) name c e) sound

pub fresh_is_sound : FreshIsSound
fresh_is_sound limit = record {
  checked = tt;
  apart = tt;
  free = λ name native e. refl;
  verified = λ name h e. let is = coded_by (named name) name (fresh limit) h e in absurd (cc is.1);
}
