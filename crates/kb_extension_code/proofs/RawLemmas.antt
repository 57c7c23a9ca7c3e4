-- The handlers of extensions are added, one extension after the other.
use Rattle.std.proofs.Common.{◌≡◌, ◌∙◌, sym, ap, List, ◌∷◌, ℕ, ◌+◌, None}
use Rattle.kb_files.specs.declared.fault.LoadFile.TheVariants as file
use Rattle.kb_code.specs.Handler.{HandlerData}
use Rattle.kb_base.specs.Failure.{Fails, IsRefusalOrMemory}
use Rattle.kb_base.specs.declared.failure.Failure.{Failure}
use Rattle.kb_base.specs.declared.failure.Failure.TheVariants as failure
use Rattle.kb_registry.specs.CodeFault.{code_fault}
use Rattle.kb_registry.specs.Live.{Live, with_code}
use Rattle.kb_registry.specs.declared.fault.RegistryFault.{RegistryFault}
use Rattle.kb_handler_table.specs.Codes.{raw}
use Rattle.kb_extension_code.specs.Natives.{load_failure}
use Rattle.kb_extension_code.specs.Raw.{codes_held, unless_refused}

-- the handlers of one more extension are added
pub one_live : (number : ℕ) (handlers : List HandlerData) (rest : List (List HandlerData)) (live : Live)
    → code_fault (raw handlers) live ≡ None
    → codes_held number (handlers ∷ rest) live ≡ codes_held (number + 1) rest (with_code number (raw handlers) live)
one_live number handlers rest live free =
    ap (λ fault. unless_refused fault number (codes_held (number + 1) rest (with_code number (raw handlers) live))) free

-- or they are refused
pub code_refused : (number : ℕ) (handlers : List HandlerData) (rest all : List (List HandlerData))
    (live first : Live) (failure : Failure RegistryFault)
    → codes_held number (handlers ∷ rest) live ≡ codes_held 0 all first
    → IsRefusalOrMemory (code_fault (raw handlers) live) failure
    → Fails (load_failure (file.Handlers number) failure) (codes_held 0 all first)
code_refused number handlers rest all live first failure.NoMemory goes why = tt
code_refused number handlers rest all live first (failure.Fault fault) goes why =
    sym goes
    ∙ ap (λ f. unless_refused f number (codes_held (number + 1) rest (with_code number (raw handlers) live))) why

pub ruleset registering = (one_live, code_refused)
