-- Handlers are verified in order.
use Rattle.std.proofs.Common.{◌≡◌, ◌∙◌, List, [], ◌∷◌, ◌++◌, map, refl, sym, ap, subst, append-nil, inl, inr}
use Rattle.std.specs.List.{All}
use Rattle.std.proofs.lemmas.List.Elements.{All-push}
use Rattle.kb_code.specs.Handler.{HandlerData}
use Rattle.kb_extension_code.specs.declared.verifying.Rejection.{Rejection}
use Rattle.kb_base.specs.declared.failure.Failure.{Failure}
use Rattle.kb_base.specs.declared.failure.Failure.TheVariants.{NoMemory, Fault}
use Rattle.std.specs.Prelude.{Err}
use Rattle.kb_verify.specs.Accepted.{CheckedHandler, IsAccepted}
use Rattle.kb_verify.specs.Callable.{Commands}
use Rattle.kb_verify.specs.Faults.{IsFailure}
use Rattle.kb_verify.specs.declared.fault.VerifyFault.{VerifyFault}
use Rattle.kb_extension_code.specs.Verified.{AllVerified, FirstIsRejected, IsFailureOf, IsVerified, Verifies}

module _ (commands : Commands) where
  abbrev HandsOn : List HandlerData → List HandlerData → Type 0
  HandsOn left all = (r : Rejection) → FirstIsRejected commands left r → FirstIsRejected commands all r

  -- one more handler is verified
  pub verified_more : (vs more : List CheckedHandler) (v : CheckedHandler) → All (IsVerified commands) vs
      → IsVerified commands v → more ≡ vs ++ v ∷ [] → All (IsVerified commands) more
  verified_more vs more v all own is =
      subst (All (IsVerified commands)) (sym is) (All-push (IsVerified commands) vs v all own)

  pub handlers_more : (vs more : List CheckedHandler) (v : CheckedHandler) (left rest all : List HandlerData)
      → map (λ (v : CheckedHandler). v.handler) vs ++ left ≡ all → left ≡ v.handler ∷ rest → more ≡ vs ++ v ∷ []
      → map (λ (v : CheckedHandler). v.handler) more ++ rest ≡ all
  handlers_more vs more v left rest all so is pushed =
      ap (λ vs. map (λ (v : CheckedHandler). v.handler) vs ++ rest) pushed
      ∙ apart vs ∙ ap (λ hs. map (λ (v : CheckedHandler). v.handler) vs ++ hs) (sym is) ∙ so
    where
      apart : (vs : List CheckedHandler) → map (λ (v : CheckedHandler). v.handler) (vs ++ v ∷ []) ++ rest
          ≡ map (λ (v : CheckedHandler). v.handler) vs ++ v.handler ∷ rest
      apart [] = refl
      apart (x ∷ vs) = ap (λ hs. x.handler ∷ hs) (apart vs)

  -- the first rejection among the handlers after an accepted one is the first of all
  pub hands_on : (h : HandlerData) (left rest all : List HandlerData) → HandsOn left all → left ≡ h ∷ rest
      → IsAccepted commands h → HandsOn rest all
  hands_on h left rest all on is accepted r first =
      on r (subst (λ hs. FirstIsRejected commands hs r) (sym is) (inr (accepted, first)))

  -- all are verified
  pub all_verified : (vs : List CheckedHandler) (left all : List HandlerData)
      → map (λ (v : CheckedHandler). v.handler) vs ++ left ≡ all → left ≡ [] → All (IsVerified commands) vs
      → AllVerified commands all vs
  all_verified vs left all so none each = record {
    same = sym (append-nil (map (λ (v : CheckedHandler). v.handler) vs))
        ∙ ap (λ hs. map (λ (v : CheckedHandler). v.handler) vs ++ hs) (sym none) ∙ so;
    each = each;
  }

  -- or one is refused
  pub one_fails : (h : HandlerData) (left rest all : List HandlerData) (failure : Failure VerifyFault)
      (said : Failure Rejection) → HandsOn left all → left ≡ h ∷ rest → IsFailure commands h failure
      → IsFailureOf h failure said → Verifies commands all (Err said)
  one_fails h left rest all failure NoMemory on is fails tells = tt
  one_fails h left rest all NoMemory (Fault r) on is fails tells = absurd tells
  one_fails h left rest all (Fault fault) (Fault r) on is fails tells =
      on r (subst (λ hs. FirstIsRejected commands hs r) (sym is) (inl (fault, fails, tells)))

pub ruleset verifying = (verified_more, handlers_more, hands_on, all_verified, one_fails)
