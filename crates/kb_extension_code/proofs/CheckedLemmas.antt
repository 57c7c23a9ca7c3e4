-- The handlers of extensions are added, one extension after the other.
use Rattle.std.proofs.Common.{◌≡◌, List, [], ◌∷◌, ℕ, ◌+◌, refl, sym, ap, ◌∙◌, subst, inl, inr}
use Rattle.std.specs.Prelude.{Result, Ok, Err}
use Rattle.kb_files.specs.declared.fault.LoadFault.{LoadFault}
use Rattle.kb_code.specs.Handler.{HandlerData}
use Rattle.kb_base.specs.declared.failure.Failure.{Failure}
use Rattle.kb_base.specs.declared.failure.Failure.TheVariants.{NoMemory, Fault}
use Rattle.kb_files.specs.declared.extension_file.Extension.{Extension}
use Rattle.kb_extension_code.specs.Callable.{callable_of}
use Rattle.kb_extension_code.specs.Checked.{JoinAll, Joins, IsAdmitted, IsCode, IsRejectionAt}
use Rattle.kb_extension_code.specs.declared.verifying.Rejection.{Rejection}
use Rattle.kb_extension_code.specs.Verified.{FirstIsRejected, Verifies}
use Rattle.kb_verify.specs.Callable.{Commands}
use Rattle.kb_registry.specs.CodeFault.{code_fault}
use Rattle.kb_registry.specs.Live.{Live, with_code}
use Rattle.kb_handler_table.specs.Codes.{CodesData}

module _ (extensions : List Extension) (all : List (List HandlerData)) (first : Live) where
  abbrev HandsOn : ℕ → List (List HandlerData) → Live → Type 0
  HandsOn number left live = (result : Result Live (Failure LoadFault))
      → JoinAll extensions number left live result → JoinAll extensions 0 all first result

  -- the handlers of one more extension are added
  pub one_joins : (number : ℕ) (handlers : List HandlerData) (left rest : List (List HandlerData)) (live next : Live)
      → HandsOn number left live → left ≡ handlers ∷ rest → Joins extensions number handlers live (Ok next)
      → HandsOn (number + 1) rest next
  one_joins number handlers left rest live next on is admits result joins =
      on result (subst (λ left. JoinAll extensions number left live result) (sym is)
      (inr (record { next = next; admits = admits; rest = joins })))

  -- or the load stops at them
  pub one_stops : (number : ℕ) (handlers : List HandlerData) (left rest : List (List HandlerData)) (live : Live)
      (failure : Failure LoadFault) → HandsOn number left live → left ≡ handlers ∷ rest
      → Joins extensions number handlers live (Err failure) → JoinAll extensions 0 all first (Err failure)
  one_stops number handlers left rest live failure on is joins =
      on (Err failure) (subst (λ left. JoinAll extensions number left live (Err failure)) (sym is)
      (inl (record { failure = failure; joins = joins; is = refl })))

  -- the handlers of all extensions are added
  pub all_joined : (number : ℕ) (left : List (List HandlerData)) (live : Live) → HandsOn number left live → left ≡ []
      → JoinAll extensions 0 all first (Ok live)
  all_joined number left live on none =
      on (Ok live) (subst (λ left. JoinAll extensions number left live (Ok live)) (sym none) refl)

pub ruleset joining = (one_joins, one_stops, all_joined)

-- verified handlers are added exactly as their code is
pub code_joins : (extensions : List Extension) (number : ℕ) (handlers : List HandlerData) (live : Live)
    (codes : CodesData) (result : Result Live (Failure LoadFault))
    → IsCode extensions number handlers live (Ok codes) → IsAdmitted number codes live result
    → Joins extensions number handlers live result
code_joins extensions number handlers live codes (Ok next) is admits =
    record {
      verified = is.0;
      are = is.1;
      free = ap (λ codes. code_fault codes live) (sym is.2) ∙ admits.0;
      then = admits.1 ∙ ap (λ codes. with_code number codes live) is.2;
    }
code_joins extensions number handlers live codes (Err NoMemory) is admits = tt
code_joins extensions number handlers live codes (Err (Fault fault)) is bars = inr (record {
  verified = is.0;
  are = is.1;
  why = bars.0;
  because = ap (λ codes. code_fault codes live) (sym is.2) ∙ bars.1;
  is = bars.2;
})

-- the load stops at handlers that aren't accepted
pub no_code_joins : (extensions : List Extension) (number : ℕ) (handlers : List HandlerData) (live : Live)
    (failure : Failure LoadFault) → IsCode extensions number handlers live (Err failure)
    → Joins extensions number handlers live (Err failure)
no_code_joins extensions number handlers live NoMemory refused = tt
no_code_joins extensions number handlers live (Fault fault) refused = inl refused

-- handlers that aren't accepted have no code
pub refused_code : (extensions : List Extension) (number : ℕ) (handlers : List HandlerData) (live : Live)
    (commands : Commands) (failure : Failure Rejection) (said : Failure LoadFault)
    → commands ≡ callable_of extensions number handlers live → Verifies commands handlers (Err failure)
    → IsRejectionAt number failure said → IsCode extensions number handlers live (Err said)
refused_code extensions number handlers live commands failure NoMemory is fails tells = tt
refused_code extensions number handlers live commands NoMemory (Fault fault) is fails tells = absurd tells
refused_code extensions number handlers live commands (Fault r) (Fault fault) is fails tells = record {
  rejection = r;
  first = subst (λ commands. FirstIsRejected commands handlers r) is fails;
  is = tells;
}
