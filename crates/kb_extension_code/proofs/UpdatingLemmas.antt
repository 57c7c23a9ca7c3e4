-- The verdict on handlers is the one that the definition gives.
use Rattle.std.proofs.Common.{◌≡◌, ◌∙◌, inl, inr, true, false, List, [], ◌∷◌, ◌++◌, map, refl}
use Rattle.std.proofs.Common.{sym, ap, Option, Some, None}
use Rattle.std.specs.Prelude.{option_map, option_to_list, Ok, Err, if◌then◌else◌}
use Rattle.std.specs.List.{All, flat_map}
use Rattle.std.specs.Option.{option_or}
use Rattle.std.proofs.lemmas.List.Elements.{All-head, All-tail}
use Rattle.kb_base.specs.Failure.{Fails}
use Rattle.kb_base.specs.declared.failure.Failure.{Failure}
use Rattle.kb_base.specs.declared.failure.Failure.TheVariants.{Fault, NoMemory}
use Rattle.kb_code.specs.Handler.{HandlerData}
use Rattle.kb_core.specs.Declaration.{Declaration}
use Rattle.kb_files.specs.declared.extension_file.Extension.{Extension}
use Rattle.kb_handler_table.specs.Codes.{checked, raw}
use Rattle.kb_extension_code.specs.Callable.{callable_of}
use Rattle.kb_extension_code.specs.Verified.{AllVerified, FirstIsRejected, IsVerified, Verifies, rejection}
use Rattle.kb_extension_code.specs.declared.verifying.Rejection.{Rejection}
use Rattle.kb_registry.specs.Live.{Live}
use Rattle.kb_verify.proofs.Decides.{accepted_or_faulty}
use Rattle.kb_verify.proofs.Refutes.{fault_refutes, refused_not, refused_number}
use Rattle.kb_verify.specs.Accepted.{AreCallees, AreDeclared, CheckedHandler, IsAccepted}
use Rattle.kb_verify.specs.Callable.{Commands}
use Rattle.kb_verify.specs.Faults.{IsDecided, IsFault}
use Rattle.kb_verify.specs.declared.callees.Callee.{Callee}
use Rattle.kb_verify.specs.declared.fault.VerifyFault.{VerifyFault}
use Rattle.kb_extension_code.specs.Updating.{callee_at, checked_by, checked_unless, code_of, fault_in, first_refusal}
use Rattle.kb_extension_code.specs.Updating.{handler_refusal, is_verified, refusal_of, refused_command, rejected_by}
use Rattle.kb_extension_code.specs.Updating.{with_callees}

-- ---- one handler

module _ (commands : Commands) (h : HandlerData) where
  accepted_none : IsAccepted commands h → handler_refusal commands h ≡ None
  unfolding handler_refusal
  accepted_none accepted = by (accepted_or_faulty commands h)
    where
      by : (d : IsDecided commands h) → option_map (refusal_of h) (fault_in commands h d) ≡ None
      by (inl other) = refl
      by (inr refused) = absurd (refused_not commands h refused accepted)

  faulty_some : (fault : VerifyFault) → IsFault commands h fault →
      handler_refusal commands h ≡ Some (refused_command (rejection h fault))
  unfolding handler_refusal
  faulty_some fault is = by (accepted_or_faulty commands h)
    where
      by : (d : IsDecided commands h) →
          option_map (refusal_of h) (fault_in commands h d) ≡ Some (refused_command (rejection h fault))
      by (inl accepted) = absurd (fault_refutes commands h (Fault fault) is tt accepted)
      by (inr refused) = ap (λ n. Some (refusal_of h n)) (refused_number commands h refused fault is)

  -- the callees are those at the called indexes
  declared_are : (callees : List Callee) → AreDeclared commands h callees →
      flat_map (λ index. option_to_list (callee_at commands h index)) (map (λ c. c.index) callees) ≡ callees
  declared_are [] are = refl
  declared_are (c ∷ callees) are =
      ap (λ (o : Option Declaration).
      option_to_list (option_map (λ d. let made : Callee = record { index = c.index; signature = d } in made) o)
      ++ flat_map (λ index. option_to_list (callee_at commands h index)) (map (λ (c : Callee). c.index) callees)) are.0
      ∙ ap (λ (cs : List Callee). c ∷ cs) (declared_are callees are.1)

  callees_are : (callees : List Callee) → AreCallees commands h callees → callees ≡ (with_callees commands h).callees
  callees_are callees are =
      sym (declared_are callees are.declared)
      ∙ ap (λ ns. flat_map (λ index. option_to_list (callee_at commands h index)) ns) are.called

-- ---- several handlers

module _ (commands : Commands) where
  pub verified_are : (vs : List CheckedHandler) → All (IsVerified commands) vs →
      vs ≡ map (with_callees commands) (map (λ v. v.handler) vs)
  verified_are [] all = refl
  verified_are (v ∷ vs) all =
      let first = All-head (IsVerified commands) v vs all in
      ap (λ callees. record { handler = v.handler; callees = callees } ∷ vs)
      (callees_are commands v.handler v.callees first.callees)
      ∙ ap (λ (vs : List CheckedHandler). with_callees commands v.handler ∷ vs)
      (verified_are vs (All-tail (IsVerified commands) v vs all))

  none_refused : (vs : List CheckedHandler) → All (IsVerified commands) vs →
      first_refusal commands (map (λ v. v.handler) vs) ≡ None
  none_refused [] all = refl
  none_refused (v ∷ vs) all =
      let first = All-head (IsVerified commands) v vs all in
      ap (λ o. option_or o (first_refusal commands (map (λ (v : CheckedHandler). v.handler) vs)))
      (accepted_none commands v.handler first.accepted)
      ∙ none_refused vs (All-tail (IsVerified commands) v vs all)

  first_refused : (hs : List HandlerData) (r : Rejection) → FirstIsRejected commands hs r →
      first_refusal commands hs ≡ Some (refused_command r)
  first_refused [] r is = absurd is
  first_refused (h ∷ hs) r (inl refused) =
      ap (λ o. option_or o (first_refusal commands hs)) (faulty_some commands h refused.0 refused.1)
      ∙ ap (λ r. Some (refused_command r)) (sym refused.2)
  first_refused (h ∷ hs) r (inr later) =
      ap (λ o. option_or o (first_refusal commands hs)) (accepted_none commands h later.0)
      ∙ first_refused hs r later.1

  -- all are verified
  pub checked_is : (hs : List HandlerData) (vs : List CheckedHandler) → AllVerified commands hs vs →
      checked_by commands hs ≡ Ok (checked vs)
  unfolding checked_by
  checked_is hs vs all =
      ap (λ o. checked_unless o commands hs)
      (ap (first_refusal commands) (sym all.same) ∙ none_refused vs all.each)
      ∙ ap (λ (vs : List CheckedHandler). Ok (checked vs))
      (ap (map (with_callees commands)) (sym all.same) ∙ sym (verified_are vs all.each))

  -- or one is refused
  pub refused_is : (hs : List HandlerData) (r : Rejection) → FirstIsRejected commands hs r →
      checked_by commands hs ≡ Err (refused_command r)
  unfolding checked_by
  refused_is hs r first =
      ap (λ o. checked_unless o commands hs) (first_refused hs r first)

  pub fails_is : (hs : List HandlerData) (failure : Failure Rejection) → Verifies commands hs (Err failure) →
      Fails (rejected_by failure) (checked_by commands hs)
  fails_is hs NoMemory is = tt
  fails_is hs (Fault r) is = refused_is hs r is

pub ruleset verdict = (checked_is, fails_is)

-- ---- code of an extension

module _ (e : Extension) (es : List Extension) (live : Live) (hs : List HandlerData) where
  pub raw_code : is_verified e.number live ≡ false → code_of e es live hs ≡ Ok (raw hs)
  unfolding code_of
  raw_code is = ap (λ b. if b then checked_by (callable_of es e.number hs live) hs else Ok (raw hs)) is

  pub checked_code : is_verified e.number live ≡ true →
      code_of e es live hs ≡ checked_by (callable_of es e.number hs live) hs
  unfolding code_of
  checked_code is = ap (λ b. if b then checked_by (callable_of es e.number hs live) hs else Ok (raw hs)) is
