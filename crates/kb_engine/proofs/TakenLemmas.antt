-- What an event takes in all, by the position of what it found.
use Rattle.std.proofs.Common.{◌≡◌, ◌∙◌, ℕ, List, Option, Some, None, Result, ap, refl, subst, sym}
use Rattle.std.specs.Prelude.{IfOk, option_map, slice_get}
use Rattle.kb_bindings.specs.Sources.{rules_of}
use Rattle.kb_engine.specs.Taken.{Completes, CompletesAs, TakesRule}
use Rattle.kb_engine.specs.declared.taken.Taken.{Taken}
use Rattle.kb_resolve.specs.Resolved.{found}
use Rattle.kb_resolve.specs.declared.found.Found.{Found}
use Rattle.kb_resolve.specs.declared.found.Found.TheVariants as place
use Rattle.kb_rules.specs.declared.rule.Rule.{Rule}
use Rattle.kb_session.specs.State.{State}

module _ (s : State) (f : Found) (position : ℕ) (rules : List Rule) (before : Taken) (is : f ≡ place.At position)
    (are : rules ≡ rules_of s.sources) where
  pub completes_rule : {E : Type 0} (rule : Rule) (r : Result Taken E) → Some rule ≡ slice_get rules position
      → IfOk r (TakesRule s before.chord rule) → IfOk r (Completes s f before)
  completes_rule rule r at ok =
      subst (λ (g : Found). IfOk r (Completes s g before)) (sym is)
      (subst (λ (o : Option Rule). IfOk r (CompletesAs s (option_map found o) before))
      (at ∙ ap (λ rs. slice_get rs position) are) ok)

  pub completes_gone : None ≡ slice_get rules position → Completes s f before before
  completes_gone at =
      subst (λ (g : Found). Completes s g before before) (sym is)
      (subst (λ (o : Option Rule). CompletesAs s (option_map found o) before before)
      (at ∙ ap (λ rs. slice_get rs position) are) refl)
