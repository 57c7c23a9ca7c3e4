-- The verification of the handlers of a file.
use Rattle.std.specs.Prelude.{◌≡◌, ◌⊎◌, List, [], ◌∷◌, map, Result, Ok, Err}
use Rattle.std.specs.List.{All}
use Rattle.kb_code.specs.Handler.{HandlerData}
use Rattle.kb_base.specs.declared.failure.Failure.{Failure}
use Rattle.kb_base.specs.declared.failure.Failure.TheVariants.{NoMemory, Fault}
use Rattle.kb_verify.specs.Accepted.{AreCallees, CheckedHandler, IsAccepted}
use Rattle.kb_verify.specs.Callable.{Commands}
use Rattle.kb_verify.specs.Fault.{kind_of, place_of}
use Rattle.kb_verify.specs.Faults.{IsFault}
use Rattle.kb_verify.specs.declared.fault.VerifyFault.{VerifyFault}
use Rattle.kb_extension_code.specs.declared.verifying.Rejection.{Rejection}

-- a handler that isn't accepted: its command, its fault, and the fault's place
abbrev pub rejection : HandlerData → VerifyFault → Rejection
rejection h fault = record { command = h.command; kind = kind_of fault; place = place_of fault }

-- a handler is rejected
abbrev pub IsRejected : Commands → HandlerData → Rejection → Type 0
IsRejected commands h r = (fault : VerifyFault) × IsFault commands h fault × (r ≡ rejection h fault)

-- the first handler of a file that isn't accepted is rejected
abbrev pub FirstIsRejected : Commands → List HandlerData → Rejection → Type 0
FirstIsRejected commands [] r = ⊥
FirstIsRejected commands (h ∷ rest) r =
    IsRejected commands h r ⊎ (IsAccepted commands h × FirstIsRejected commands rest r)

-- a handler is accepted, and its callees have the signatures that the commands declare
pub record IsVerified (commands : Commands) (v : CheckedHandler) : Type 0 where
  pub accepted : IsAccepted commands v.handler
  pub callees : AreCallees commands v.handler v.callees

-- all handlers of a file are verified
pub record AllVerified (commands : Commands) (handlers : List HandlerData) (verified : List CheckedHandler)
    : Type 0 where
  pub same : map (λ v. v.handler) verified ≡ handlers
  pub each : All (IsVerified commands) verified

-- the result of verifying all handlers: verified, the first rejection, or refused memory
abbrev pub Verifies : Commands → List HandlerData → Result (List CheckedHandler) (Failure Rejection) → Type 0
Verifies commands handlers (Ok verified) = AllVerified commands handlers verified
Verifies commands handlers (Err NoMemory) = Unit {0}
Verifies commands handlers (Err (Fault r)) = FirstIsRejected commands handlers r

-- ---- for private functions

-- the failure of a handler, as a rejection; memory may be refused for its command
abbrev pub IsFailureOf : HandlerData → Failure VerifyFault → Failure Rejection → Type 0
IsFailureOf h failure NoMemory = Unit {0}
IsFailureOf h NoMemory (Fault r) = ⊥
IsFailureOf h (Fault fault) (Fault r) = r ≡ rejection h fault
