-- Code that an update gives is verified.
use Rattle.std.proofs.Common.{◌≡◌, ◌∙◌, inl, inr, ℕ, Bool, true, false, List, [], ◌∷◌, ◌++◌, map, refl, sym, ap, subst}
use Rattle.std.proofs.Common.{Option, Some, None, length}
use Rattle.std.specs.Prelude.{⊤, option_map, option_to_list, Result, Ok, Err, if◌then◌else◌}
use Rattle.std.specs.List.{All, flat_map}
use Rattle.std.proofs.lemmas.List.Elements.{All-cons, All-nil}
use Rattle.kb_base.specs.Reading.{◌>>=◌, unless}
use Rattle.kb_base.specs.Refusal.{refused_for}
use Rattle.kb_base.specs.declared.fault.FaultKind.TheVariants.{SignatureChanged}
use Rattle.kb_base.specs.declared.refusal.Refusal.{Refusal}
use Rattle.kb_code.specs.Callees.{callees_of}
use Rattle.kb_code.specs.Face.{same_face}
use Rattle.kb_code.specs.Handler.{HandlerData}
use Rattle.kb_code.specs.Reachable.{CalleesBelow}
use Rattle.kb_code.proofs.ReachableLemmas.{all_called}
use Rattle.kb_core.specs.Declaration.{Declaration}
use Rattle.kb_files.specs.HandlerFile.{handlers_in}
use Rattle.kb_files.specs.declared.extension_file.Extension.{Extension}
use Rattle.kb_handler_table.specs.Codes.{CodesData, checked}
use Rattle.kb_handler_table.specs.Live.{handlers_of}
use Rattle.kb_extension_code.specs.Callable.{callable_of}
use Rattle.kb_extension_code.specs.Verified.{IsVerified}
use Rattle.kb_registry.specs.Live.{Live}
use Rattle.kb_soundness.proofs.Loads.{both_none}
use Rattle.kb_verify.proofs.Decides.{accepted_or_faulty}
use Rattle.kb_verify.specs.Accepted.{AreDeclared, CheckedHandler, IsAccepted}
use Rattle.kb_verify.specs.Callable.{Commands, declaration_at}
use Rattle.kb_verify.specs.Faults.{IsDecided}
use Rattle.kb_verify.specs.declared.callees.Callee.{Callee}
use Rattle.kb_extension_code.specs.Updating.{callee_at, checked_by, checked_unless, code_of, fault_in, first_refusal}
use Rattle.kb_extension_code.specs.Updating.{refusal_of}
use Rattle.kb_extension_code.specs.Updating.{handler_refusal, is_verified, updated_code, with_callees}
use Rattle.kb_extension_code.proofs.Settles.{called}
use Rattle.kb_extension_code.proofs.UpdatingLemmas.{checked_code}

module _ (commands : Commands) where
  -- ---- one handler

  accepted_of : (h : HandlerData) → handler_refusal commands h ≡ None → IsAccepted commands h
  unfolding handler_refusal
  accepted_of h none = by (accepted_or_faulty commands h) none
    where
      by : (d : IsDecided commands h) → option_map (refusal_of h) (fault_in commands h d) ≡ None →
          IsAccepted commands h
      by (inl accepted) e = accepted
      by (inr faulty) e = absurd (cc e)

  -- each index is that of a command with a declaration
  abbrev AreKnown : HandlerData → List ℕ → Type 0
  AreKnown h [] = ⊤
  AreKnown h (n ∷ ns) = ((d : Declaration) × (declaration_at commands h n ≡ Some d)) × AreKnown h ns

  known_more : (h : HandlerData) (ns : List ℕ) (n : ℕ) → AreKnown h ns →
      (d : Declaration) × (declaration_at commands h n ≡ Some d) → AreKnown h (ns ++ n ∷ [])
  known_more h [] n known its = (its, tt)
  known_more h (m ∷ ns) n known its = (known.0, known_more h ns n known.1 its)

  called_known : (h : HandlerData) → IsAccepted commands h → (place : ℕ) (ns : List ℕ) → CalleesBelow h place ns →
      AreKnown h ns
  called_known h accepted place ns CalleesBelow.none = tt
  called_known h accepted place ns (CalleesBelow.called {p = p} {n = n} {ns = ms} below calls) =
      known_more h ms n (called_known h accepted p ms below) (called commands h p n accepted calls)
  called_known h accepted place ns (CalleesBelow.passed {p = p} below other) = called_known h accepted p ns below

  abbrev callees_at : HandlerData → List ℕ → List Callee
  callees_at h ns = flat_map (λ index. option_to_list (callee_at commands h index)) ns

  abbrev callee : ℕ → Declaration → Callee
  callee n d = record { index = n; signature = d }

  known_indexes : (h : HandlerData) (ns : List ℕ) → AreKnown h ns → map (λ c. c.index) (callees_at h ns) ≡ ns
  known_indexes h [] known = refl
  known_indexes h (n ∷ ns) known =
      ap (λ o. map (λ (c : Callee). c.index) (option_to_list (option_map (callee n) o) ++ callees_at h ns)) known.0.1
      ∙ ap (λ (ns : List ℕ). n ∷ ns) (known_indexes h ns known.1)

  known_declared : (h : HandlerData) (ns : List ℕ) → AreKnown h ns → AreDeclared commands h (callees_at h ns)
  known_declared h [] known = tt
  known_declared h (n ∷ ns) known =
      subst (λ o. AreDeclared commands h (option_to_list (option_map (callee n) o) ++ callees_at h ns))
      (sym known.0.1) (known.0.1, known_declared h ns known.1)

  handler_verified : (h : HandlerData) → IsAccepted commands h → IsVerified commands (with_callees commands h)
  handler_verified h accepted =
      let known = called_known h accepted (length h.code) (callees_of h) (all_called h) in
      record {
        accepted = accepted;
        callees = record {
          called = known_indexes h (callees_of h) known;
          declared = known_declared h (callees_of h) known;
        };
      }

  -- ---- several handlers

  each_verified : (hs : List HandlerData) → first_refusal commands hs ≡ None →
      All (IsVerified commands) (map (with_callees commands) hs)
  each_verified [] none = All-nil (IsVerified commands)
  each_verified (h ∷ hs) none =
      let parts = both_none (handler_refusal commands h) (first_refusal commands hs) none in
      All-cons (IsVerified commands) (with_callees commands h) (map (with_callees commands) hs)
      (handler_verified h (accepted_of h parts.0)) (each_verified hs parts.1)

  same_handlers : (hs : List HandlerData) → map (λ v. v.handler) (map (with_callees commands) hs) ≡ hs
  same_handlers [] = refl
  same_handlers (h ∷ hs) = ap (λ (hs : List HandlerData). h ∷ hs) (same_handlers hs)

  checked_none : (hs : List HandlerData) (codes : CodesData) → checked_by commands hs ≡ Ok codes →
      (first_refusal commands hs ≡ None) × (codes ≡ checked (map (with_callees commands) hs))
  unfolding checked_by
  checked_none hs codes is = by (first_refusal commands hs) refl is
    where
      by : (o : Option Refusal) → first_refusal commands hs ≡ o → checked_unless o commands hs ≡ Ok codes →
          (first_refusal commands hs ≡ None) × (codes ≡ checked (map (with_callees commands) hs))
      by None none e = (none, cc)
      by (Some refusal) some e = absurd (cc e)

-- ---- updates

-- the handlers of an update, verified against what they may call, with the face of those before
pub record IsUpdate (e : Extension) (es : List Extension) (live : Live) (codes : CodesData) : Type 0 where
  pub handlers : List HandlerData
  pub same : same_face (handlers_of e.number live.code) handlers ≡ true
  pub verified : List CheckedHandler
  pub are : codes ≡ checked verified
  pub of : codes.handlers ≡ handlers
  pub each : All (IsVerified (callable_of es e.number handlers live)) verified

module _ (e : Extension) (es : List Extension) (live : Live) (codes : CodesData)
    (verified : is_verified e.number live ≡ true) where
  taken : (hs : List HandlerData) → same_face (handlers_of e.number live.code) hs ≡ true →
      code_of e es live hs ≡ Ok codes → IsUpdate e es live codes
  taken hs same is =
      let commands = callable_of es e.number hs live in
      let none = checked_none commands hs codes (sym (checked_code e es live hs verified) ∙ is) in
      record {
        handlers = hs;
        same = same;
        verified = map (with_callees commands) hs;
        are = none.1;
        of = ap (λ (c : CodesData). c.handlers) none.1 ∙ same_handlers commands hs;
        each = each_verified commands hs none.0;
      }

  faced : (hs : List HandlerData) →
      (unless (refused_for SignatureChanged) (same_face (handlers_of e.number live.code) hs) hs >>= λ hs. code_of e es live hs)
      ≡ Ok codes → IsUpdate e es live codes
  faced hs is = by (same_face (handlers_of e.number live.code) hs) refl is
    where
      by : (b : Bool) → same_face (handlers_of e.number live.code) hs ≡ b →
          ((if b then Ok hs else Err (refused_for SignatureChanged)) >>= λ hs. code_of e es live hs) ≡ Ok codes →
          IsUpdate e es live codes
      by true same e = taken hs same e
      by false same e = absurd (cc e)

  pub update_is : (bytes : List ℕ) → updated_code e es live bytes ≡ Ok codes → IsUpdate e es live codes
  update_is bytes is = by (handlers_in bytes) is
    where
      by : (r : Result (List HandlerData) Refusal) →
          (r >>= λ hs. unless (refused_for SignatureChanged) (same_face (handlers_of e.number live.code) hs) hs
          >>= λ hs. code_of e es live hs) ≡ Ok codes → IsUpdate e es live codes
      by (Ok hs) e = faced hs e
      by (Err refusal) e = absurd (cc e)
