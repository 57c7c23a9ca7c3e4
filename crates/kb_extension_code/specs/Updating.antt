-- The code that an update gives an extension, or why the update is refused.
use Rattle.std.specs.Prelude.{ℕ, Bool, true, List, [], ◌∷◌, map, Option, Some, None, option_map, is_some}
use Rattle.std.specs.Prelude.{option_to_list, Result, Ok, Err, if◌then◌else◌}
use Rattle.std.specs.List.{flat_map}
use Rattle.std.specs.Option.{option_or, option_map_or}
use mathlib.Core.Logic.{inl, inr}
use Rattle.kb_base.specs.Reading.{◌>>=◌, unless}
use Rattle.kb_base.specs.Refusal.{refused_for}
use Rattle.kb_base.specs.declared.fault.FaultKind.{FaultKind}
use Rattle.kb_base.specs.declared.fault.FaultKind.TheVariants.{SignatureChanged}
use Rattle.kb_base.specs.declared.failure.Failure.{Failure}
use Rattle.kb_base.specs.declared.failure.Failure.TheVariants.{Fault, NoMemory}
use Rattle.kb_base.specs.declared.refusal.Refusal.{Refusal}
use Rattle.kb_code.specs.Callees.{callees_of}
use Rattle.kb_code.specs.Face.{same_face}
use Rattle.kb_code.specs.Handler.{HandlerData}
use Rattle.kb_files.specs.HandlerFile.{handlers_in}
use Rattle.kb_files.specs.declared.extension_file.Extension.{Extension}
use Rattle.kb_handler_table.specs.Codes.{CodesData, checked, raw}
use Rattle.kb_handler_table.specs.Live.{group_of, handlers_of}
use Rattle.kb_extension_code.specs.Callable.{callable_of}
use Rattle.kb_extension_code.specs.declared.verifying.Rejection.{Rejection}
use Rattle.kb_registry.specs.Live.{Live}
use Rattle.kb_verify.proofs.Decides.{accepted_or_faulty}
use Rattle.kb_verify.specs.Accepted.{CheckedHandler}
use Rattle.kb_verify.specs.Callable.{Commands, declaration_at}
use Rattle.kb_verify.specs.Faults.{IsDecided, kind_in}
use Rattle.kb_verify.specs.declared.callees.Callee.{Callee}

-- ---- handlers that are verified

-- the fault of a handler, by whether it is accepted or has a fault
abbrev pub fault_in : (commands : Commands) (h : HandlerData) → IsDecided commands h → Option FaultKind
fault_in commands h (inl accepted) = None
fault_in commands h (inr refused) = Some (kind_in refused)

-- the refusal of a handler that isn't accepted: its fault, and its command
abbrev pub refused_command : Rejection → Refusal
refused_command r = record { kind = r.kind; detail = Some r.command }

-- the refusal of a handler for a fault
abbrev pub refusal_of : HandlerData → FaultKind → Refusal
refusal_of h kind = record { kind = kind; detail = Some h.command }

-- the refusal of a handler with these callable commands, if it isn't accepted
unfoldable pub handler_refusal : Commands → HandlerData → Option Refusal
handler_refusal commands h = option_map (refusal_of h) (fault_in commands h (accepted_or_faulty commands h))

-- the refusal of the first handler that isn't accepted
abbrev pub first_refusal : Commands → List HandlerData → Option Refusal
first_refusal commands [] = None
first_refusal commands (h ∷ hs) = option_or (handler_refusal commands h) (first_refusal commands hs)

-- the callee at an index of the list of calls, with the signature that its command declares
abbrev pub callee_at : Commands → HandlerData → ℕ → Option Callee
callee_at commands h index =
    option_map (λ d. record { index = index; signature = d }) (declaration_at commands h index)

-- a handler with its callees, one for each reachable call, in order of place
abbrev pub with_callees : Commands → HandlerData → CheckedHandler
with_callees commands h = record {
  handler = h;
  callees = flat_map (λ index. option_to_list (callee_at commands h index)) (callees_of h);
}

-- verified code, unless a handler isn't accepted
abbrev pub checked_unless : Option Refusal → Commands → List HandlerData → Result CodesData Refusal
checked_unless None commands hs = Ok (checked (map (with_callees commands) hs))
checked_unless (Some refusal) commands hs = Err refusal

unfoldable pub checked_by : Commands → List HandlerData → Result CodesData Refusal
checked_by commands hs = checked_unless (first_refusal commands hs) commands hs

-- ---- updates

-- whether the code of an extension was verified
abbrev pub is_verified : ℕ → Live → Bool
is_verified number live = option_map_or (λ codes. is_some codes.callees) (group_of number live.code) true

-- code of an extension: verified if the code before was
unfoldable pub code_of : Extension → List Extension → Live → List HandlerData → Result CodesData Refusal
code_of e es live hs =
    if is_verified e.number live then checked_by (callable_of es e.number hs live) hs else Ok (raw hs)

-- the code of the handlers that the bytes of a file hold: a fault of the file comes first, then other
-- commands than before, or a change of their parameters, budgets or depths (95), and then the first handler
-- that isn't accepted
abbrev pub updated_code : Extension → List Extension → Live → List ℕ → Result CodesData Refusal
updated_code e es live bytes =
    handlers_in bytes
    >>= λ hs. unless (refused_for SignatureChanged) (same_face (handlers_of e.number live.code) hs) hs
    >>= λ hs. code_of e es live hs

-- ---- for private functions

-- the failure of an update, by that of its handlers
abbrev pub rejected_by : Failure Rejection → Failure Refusal
rejected_by NoMemory = NoMemory
rejected_by (Fault r) = Fault (refused_command r)
