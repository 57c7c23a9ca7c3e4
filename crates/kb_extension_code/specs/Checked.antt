-- The live commands of a new session whose handlers are verified.
use Rattle.std.specs.Prelude.{◌≡◌, ◌⊎◌, ℕ, ◌+◌, List, [], ◌∷◌, ◌++◌, Some, None, Result, Ok, Err, codes}
use Rattle.std.specs.Prelude.{decimal}
use Rattle.kb_files.specs.Fault.{refused_file}
use Rattle.kb_files.specs.declared.fault.LoadFault.{LoadFault}
use Rattle.kb_files.specs.declared.fault.LoadFile.TheVariants as file
use Rattle.kb_code.specs.Handler.{HandlerData}
use Rattle.kb_handler_table.specs.Codes.{CodesData, checked}
use Rattle.kb_base.specs.Failure.{Fails}
use Rattle.kb_base.specs.declared.failure.Failure.{Failure}
use Rattle.kb_base.specs.declared.failure.Failure.TheVariants.{NoMemory, Fault}
use Rattle.kb_base.specs.declared.refusal.Refusal.{Refusal}
use Rattle.kb_core.specs.declared.native.Native.{Native}
use Rattle.kb_files.specs.declared.extension_file.Extension.{Extension}
use Rattle.kb_registry.specs.CodeFault.{code_fault}
use Rattle.kb_registry.specs.Live.{Live, with_code}
use Rattle.kb_registry.specs.declared.fault.RegistryFault.{RegistryFault}
use Rattle.kb_verify.specs.Accepted.{CheckedHandler}
use Rattle.kb_extension_code.specs.declared.verifying.Rejection.{Rejection}
use Rattle.kb_extension_code.specs.Callable.{callable_of}
use Rattle.kb_extension_code.specs.Natives.{natives_held, refused_commands}
use Rattle.kb_extension_code.specs.Verified.{AllVerified, FirstIsRejected}

-- the handlers of an extension are verified against the commands that they may call
abbrev pub AreVerified : List Extension → ℕ → List HandlerData → Live → List CheckedHandler → Type 0
AreVerified extensions number handlers live verified =
    AllVerified (callable_of extensions number handlers live) handlers verified

-- the handlers are verified and added
pub record Admits (extensions : List Extension) (number : ℕ) (handlers : List HandlerData)
    (live next : Live) : Type 0 where
  pub verified : List CheckedHandler
  pub are : AreVerified extensions number handlers live verified
  pub free : code_fault (checked verified) live ≡ None
  pub then : next ≡ with_code number (checked verified) live

-- the refusal of a handler that isn't accepted: its fault, its command, and the place
abbrev pub refused_handler : Rejection → Refusal
refused_handler r = record { kind = r.kind; detail = Some (r.command ++ (codes " " ++ decimal r.place)) }

-- a handler isn't accepted
pub record Refuses (extensions : List Extension) (number : ℕ) (handlers : List HandlerData) (live : Live)
    (fault : LoadFault) : Type 0 where
  pub rejection : Rejection
  pub first : FirstIsRejected (callable_of extensions number handlers live) handlers rejection
  pub is : fault ≡ refused_file (file.Handlers number) (refused_handler rejection)

-- the handlers are verified, and the registry refuses them
pub record Bars (extensions : List Extension) (number : ℕ) (handlers : List HandlerData) (live : Live)
    (fault : LoadFault) : Type 0 where
  pub verified : List CheckedHandler
  pub are : AreVerified extensions number handlers live verified
  pub why : RegistryFault
  pub because : code_fault (checked verified) live ≡ Some why
  pub is : fault ≡ refused_commands (file.Handlers number) why

-- the result for an extension's handlers
abbrev pub Joins : List Extension → ℕ → List HandlerData → Live → Result Live (Failure LoadFault) → Type 0
Joins extensions number handlers live (Ok next) = Admits extensions number handlers live next
Joins extensions number handlers live (Err NoMemory) = Unit {0}
Joins extensions number handlers live (Err (Fault fault)) =
    Refuses extensions number handlers live fault ⊎ Bars extensions number handlers live fault

-- the handlers are added, and the result for the remaining ones follows
pub record JoinsAndThen (extensions : List Extension) (number : ℕ) (handlers : List HandlerData) (live : Live)
    (Then : Live → Type 0) : Type 0 where
  pub next : Live
  pub admits : Admits extensions number handlers live next
  pub rest : Then next

-- a failure of an extension's handlers is the result of the whole load
pub record Stops (extensions : List Extension) (number : ℕ) (handlers : List HandlerData) (live : Live)
    (result : Result Live (Failure LoadFault)) : Type 0 where
  pub failure : Failure LoadFault
  pub joins : Joins extensions number handlers live (Err failure)
  pub is : result ≡ Err failure

-- the result for the handlers of extensions, in load order, numbered from `number`
abbrev pub JoinAll : List Extension → ℕ → List (List HandlerData) → Live → Result Live (Failure LoadFault)
    → Type 0
JoinAll extensions number [] live result = result ≡ Ok live
JoinAll extensions number (handlers ∷ rest) live result =
    Stops extensions number handlers live result
    ⊎ JoinsAndThen extensions number handlers live (λ next. JoinAll extensions (number + 1) rest next result)

-- closures for these natives are registered, and then the handlers of extensions are verified and
-- added, in load order; or that fails, or is refused memory
pub record Begins (natives : List Native) (extensions : List Extension) (handlers : List (List HandlerData))
    (result : Result Live (Failure LoadFault)) : Type 0 where
  pub live : Live
  pub held : natives_held natives ≡ Ok live
  pub join : JoinAll extensions 0 handlers live result

abbrev pub NativesFail : List Native → Result Live (Failure LoadFault) → Type 0
NativesFail natives (Ok live) = ⊥
NativesFail natives (Err failure) = Fails failure (natives_held natives)

abbrev pub LiveChecked : List Native → List Extension → List (List HandlerData)
    → Result Live (Failure LoadFault) → Type 0
LiveChecked natives extensions handlers result =
    NativesFail natives result ⊎ Begins natives extensions handlers result

-- ---- for private functions

-- code with the verified handlers of an extension, or the refusal of one that isn't accepted
abbrev pub IsCode : List Extension → ℕ → List HandlerData → Live → Result CodesData (Failure LoadFault)
    → Type 0
IsCode extensions number handlers live (Ok codes) =
    (verified : List CheckedHandler) × AreVerified extensions number handlers live verified
    × (codes ≡ checked verified)
IsCode extensions number handlers live (Err NoMemory) = Unit {0}
IsCode extensions number handlers live (Err (Fault fault)) = Refuses extensions number handlers live fault

-- code is added, or the registry refuses it
abbrev pub IsAdmitted : ℕ → CodesData → Live → Result Live (Failure LoadFault) → Type 0
IsAdmitted number codes live (Ok next) = (code_fault codes live ≡ None) × (next ≡ with_code number codes live)
IsAdmitted number codes live (Err NoMemory) = Unit {0}
IsAdmitted number codes live (Err (Fault fault)) =
    (why : RegistryFault) × (code_fault codes live ≡ Some why)
    × (fault ≡ refused_commands (file.Handlers number) why)

-- the failure of a load, by that of an extension's handlers; memory may be refused for the detail
abbrev pub IsRejectionAt : ℕ → Failure Rejection → Failure LoadFault → Type 0
IsRejectionAt number failure NoMemory = Unit {0}
IsRejectionAt number NoMemory (Fault fault) = ⊥
IsRejectionAt number (Fault r) (Fault fault) = fault ≡ refused_file (file.Handlers number) (refused_handler r)
