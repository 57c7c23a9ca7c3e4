-- Verified handlers, by the verifier's list of callees.
use Rattle.std.specs.Prelude.{◌≡◌, List, Some}
use Rattle.std.specs.List.{All}
use Rattle.kb_code.specs.Handler.{HandlerData}
use Rattle.kb_code.specs.Commands.{Table}
use Rattle.kb_verify.specs.declared.callees.Callee.{Callee}
use Rattle.kb_verify.specs.Callable.{Commands}
use Rattle.kb_verify.specs.Accepted.{IsAccepted, AreCallees}
use Rattle.kb_soundness.specs.Sound.{IsVerified, live_declaration_at}

-- each of these callees is live, and declares what it declared to the verifier
abbrev pub AreLive : Table → HandlerData → List Callee → Type 0
AreLive table h callees = All (λ c. live_declaration_at table h c.index ≡ Some c.signature) callees

-- an accepted handler is verified if each callee in its list is live and declares the same
abbrev pub VerifiedByCallees : Type 0
VerifiedByCallees = (table : Table) (commands : Commands) (h : HandlerData) (callees : List Callee) →
    IsAccepted commands h → AreCallees commands h callees → AreLive table h callees → IsVerified table h
