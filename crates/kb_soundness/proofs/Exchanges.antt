-- An exchange of an extension's code keeps live handlers verified.
use Rattle.std.proofs.Common.{◌≡◌, ◌∙◌, ⊎_elim, ℕ, Bool, true, false, cond, List, [], ◌∷◌, Option, Some}
use Rattle.std.proofs.Common.{None, refl, sym, ap, nat_eq, bytes_eq, if◌then◌else◌}
use Rattle.std.specs.Prelude.{slice_get, option_map, option_and_then}
use Rattle.kb_core.specs.declared.native.Native.{Native}
use Rattle.kb_core.specs.Declaration.{Declaration}
use Rattle.kb_core.specs.Native.{named}
use Rattle.kb_code.specs.Commands.{Coded, declared_by}
use Rattle.kb_code.specs.Face.{declared_among, same_face}
use Rattle.kb_code.specs.Handler.{HandlerData, handler_named}
use Rattle.kb_code.proofs.FaceLemmas.{same_face_declares_the_same}
use Rattle.kb_handler_table.specs.Codes.{CodesData, checked_in}
use Rattle.kb_handler_table.specs.Live.{Group, exchanged, handlers_in, handlers_of, is_on, live_in}
use Rattle.kb_handler_table.proofs.Apart.{exchange_declares, exchange_stays, found_exchanged, live_exchange_declares}
use Rattle.kb_handler_table.proofs.Apart.{live_found, live_whole, none-declared, undeclared}
use Rattle.kb_registry.specs.declared.fault.RegistryFault.TheVariants.{SignatureChanged}
use Rattle.kb_registry.specs.CodeFault.{callee_fault}
use Rattle.kb_registry.specs.Live.{Live, callee_by, table_of, with_exchanged}
use Rattle.kb_registry.specs.Missing.{missing_callee}
use Rattle.kb_soundness.specs.Sound.{IsVerified, live_declaration_at}
use Rattle.kb_soundness.specs.Stays.{AllChecked, AreFree, IsSound, CodeExchangedStaysSound}
use Rattle.kb_soundness.proofs.Found.{found_all}
use Rattle.kb_soundness.proofs.Joins.{all_join, checked_whole}
use Rattle.kb_soundness.proofs.Loads.{MayJoin, declaration_among}
use Rattle.kb_soundness.proofs.Stays.{coded_by, coded_live}

-- code that isn't refused has the face of the code before, and no missing callee
not_refused : (same : Bool) (missing : Option (List ℕ)) →
    (if same then callee_fault missing else Some SignatureChanged) ≡ None → (same ≡ true) × (missing ≡ None)
not_refused true None e = (refl, refl)
not_refused true (Some name) e = absurd (cc)
not_refused false missing e = absurd (cc)

checked_instead : (extension : ℕ) (codes : CodesData) (gs : List Group) → checked_in codes ≡ codes.handlers →
    AllChecked gs → AllChecked (exchanged extension codes gs)
checked_instead extension codes [] own checked = checked
checked_instead extension codes (g ∷ gs) own checked =
    by (nat_eq g.extension extension) (checked_instead extension codes gs own checked.1)
  where
    by : (b : Bool) → AllChecked (exchanged extension codes gs) →
        AllChecked (cond b (record g { codes = codes } ∷ gs) (g ∷ exchanged extension codes gs))
    by true rest = (own, checked.1)
    by false rest = (checked.0, rest)

-- what a live handler declares is what is declared among all
coded_declares : (o : Option HandlerData) →
    option_map declared_by (option_map Coded o) ≡ option_map (λ (h : HandlerData). h.signature) o
coded_declares None = refl
coded_declares (Some h) = refl

module _ (extension : ℕ) (codes : CodesData) (live : Live)
    (same : same_face (handlers_of extension live.code) codes.handlers ≡ true) where
  abbrev then_live : Live
  then_live = with_exchanged extension codes live

  -- each name declares what it declared
  declares_as_before : (o : Option Native) (name : List ℕ) →
      option_map declared_by (callee_by o name then_live) ≡ option_map declared_by (callee_by o name live)
  declares_as_before (Some n) name = refl
  declares_as_before None name =
      coded_declares (handler_named name (live_in then_live.code))
      ∙ live_exchange_declares extension codes live.code same name
      ∙ sym (coded_declares (handler_named name (live_in live.code)))

  declared_at : (h : HandlerData) (n : ℕ) →
      live_declaration_at (table_of then_live) h n ≡ live_declaration_at (table_of live) h n
  declared_at h n = by (slice_get h.calls n)
    where
      by : (o : Option (List ℕ)) → option_map declared_by (option_and_then (table_of then_live) o)
          ≡ option_map declared_by (option_and_then (table_of live) o)
      by None = refl
      by (Some name) = declares_as_before (named name) name

  -- a handler of the new code declares what the live command of its name declared, if the extension is
  -- switched on
  new_declares : (sound : IsSound live) → is_on extension live.code ≡ true → (name : List ℕ) (d : Declaration) →
      declared_among codes.handlers name ≡ Some d → option_map declared_by (table_of live name) ≡ Some d
  new_declares sound on name d is =
      by (handler_named name (handlers_of extension live.code)) refl
      (same_face_declares_the_same (handlers_of extension live.code) codes.handlers same name ∙ is)
    where
      plain : (h : HandlerData) → handler_named name (handlers_in live.code) ≡ Some h → (o : Option Native) →
          named name ≡ o → named name ≡ None
      plain h found None e = e
      plain h found (Some native) e = let none = sound.free name native e in absurd (cc)

      by : (o : Option HandlerData) → handler_named name (handlers_of extension live.code) ≡ o →
          declared_among (handlers_of extension live.code) name ≡ Some d →
          option_map declared_by (table_of live name) ≡ Some d
      by None none e =
          let nothing = none-declared (handlers_of extension live.code) name none in absurd (cc)
      by (Some h) found e =
          let whole = live_whole extension live.code name h sound.apart on found in
          ap (option_map declared_by)
          (coded_live name live h (plain h (live_found live.code name h sound.apart whole) (named name) refl) whole)
          ∙ sym (ap (option_map (λ (h : HandlerData). h.signature)) found) ∙ e

  new_declared_at : (sound : IsSound live) → is_on extension live.code ≡ true → (h : HandlerData) (n : ℕ) (d : Declaration) →
      declaration_among codes.handlers h n ≡ Some d → live_declaration_at (table_of live) h n ≡ Some d
  new_declared_at sound on h n d is = by (slice_get h.calls n) is
    where
      by : (o : Option (List ℕ)) → option_map (λ (g : HandlerData). g.signature)
          (option_and_then (λ name. handler_named name codes.handlers) o) ≡ Some d →
          option_map declared_by (option_and_then (table_of live) o) ≡ Some d
      by None e = absurd (cc)
      by (Some name) e = new_declares sound on name d e

  -- a handler of the new code is verified then
  joins : (sound : IsSound live) → is_on extension live.code ≡ true → (h : HandlerData) →
      MayJoin live codes.handlers h → IsVerified (table_of then_live) h
  joins sound on h may = record {
    commands = may.commands;
    accepted = may.accepted;
    callees = λ p n d c. declared_at h n ∙ ⊎_elim (λ e. e) (λ e. new_declared_at sound on h n d e)
        (may.callees p n d c);
  }

  -- and another stays so
  stays : (h : HandlerData) → IsVerified (table_of live) h → IsVerified (table_of then_live) h
  stays h v = record {
    commands = v.commands;
    accepted = v.accepted;
    callees = λ p n d c. declared_at h n ∙ v.callees p n d c;
  }

  free_then : AreFree live.code → AreFree (exchanged extension codes live.code)
  free_then free name native is =
      undeclared (handlers_in (exchanged extension codes live.code)) name
      (exchange_declares extension codes live.code same name
      ∙ none-declared (handlers_in live.code) name (free name native is))

pub code_exchanged_stays_sound : CodeExchangedStaysSound
code_exchanged_stays_sound extension codes live fault checked sound =
    let each = not_refused (same_face (handlers_of extension live.code) codes.handlers)
    (missing_callee codes live) fault in
    let all = all_join codes.handlers live codes.callees checked each.1 in
    record {
      checked = checked_instead extension codes live.code (checked_whole codes.callees codes.handlers checked)
          sound.checked;
      apart = exchange_stays extension codes live.code (exchanged extension codes live.code) each.0 sound.apart refl;
      free = free_then extension codes live each.0 sound.free;
      verified = λ name h e.
          let is = coded_by (named name) name (with_exchanged extension codes live) h e in
          ⊎_elim
          (λ new. joins extension codes live each.0 sound new.0 h
          (found_all (MayJoin live codes.handlers) (λ g. bytes_eq name g.command) codes.handlers h all new.1))
          (λ old. stays extension codes live each.0 h (sound.verified name h (coded_live name live h is.0 old)))
          (found_exchanged extension codes live.code each.0 name h is.1);
    }
