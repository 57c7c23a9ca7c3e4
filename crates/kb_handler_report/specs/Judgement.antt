-- The results of the verifier for handlers.
use Rattle.std.specs.Prelude.{Bool, true, false, List, All}
use Rattle.kb_code.specs.Handler.{HandlerData}
use Rattle.kb_verify.specs.Accepted.{IsAccepted}
use Rattle.kb_verify.specs.Callable.{Commands}
use Rattle.kb_verify.specs.Faults.{IsFault}
use Rattle.kb_verify.specs.Paths.{IsDearestCost}
use Rattle.kb_handler_report.specs.Callable.{callable_of}
use Rattle.kb_handler_report.specs.Extension.{handlers_of}
use Rattle.kb_handler_report.specs.declared.extension.ExtensionCode.{ExtensionCode}
use Rattle.kb_handler_report.specs.declared.judgement.Judgement.{Judgement}
use Rattle.kb_handler_report.specs.declared.judgement.Judgement.TheVariants.{Accepted, Refused}

-- a handler is accepted, and the most expensive path costs this; or it is not, and this is its first fault
abbrev pub IsJudged : Commands → HandlerData → Judgement → Type 0
IsJudged commands h (Accepted cost) = IsAccepted commands h × IsDearestCost commands h cost
IsJudged commands h (Refused fault) = IsFault commands h fault × (IsAccepted commands h → ⊥)

-- all handlers of an extension, which is one of these, are accepted against what they may call
abbrev pub AllAccepted : List ExtensionCode → ExtensionCode → Type 0
AllAccepted extensions own = All (IsAccepted (callable_of extensions own)) (handlers_of own)

-- all handlers of each extension are accepted
abbrev pub AllOfExtensions : List ExtensionCode → Type 0
AllOfExtensions extensions = All (AllAccepted extensions) extensions

-- ---- for private functions

-- the handler is accepted
abbrev pub is_accepted : Judgement → Bool
is_accepted (Accepted cost) = true
is_accepted (Refused fault) = false
