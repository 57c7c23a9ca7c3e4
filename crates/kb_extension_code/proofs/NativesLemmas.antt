-- Closures are registered in order.
use Rattle.std.proofs.Common.{◌≡◌, List, [], ◌∷◌, Option, Some, None, ap, ◌∙◌, sym}
use Rattle.std.specs.Prelude.{Result, Ok, Err}
use Rattle.kb_files.specs.Fault.{refused_by}
use Rattle.kb_files.specs.declared.fault.LoadFile.TheVariants as file
use Rattle.kb_base.specs.Failure.{Fails, IsRefusalOrMemory}
use Rattle.kb_base.specs.Refusal.{refusing}
use Rattle.kb_base.specs.declared.failure.Failure.{Failure}
use Rattle.kb_base.specs.declared.failure.Failure.TheVariants as failure
use Rattle.kb_core.specs.declared.native.Native.{Native}
use Rattle.kb_extension_code.specs.Natives.{load_failure, natives_held}
use Rattle.kb_registry.specs.Fault as registry
use Rattle.kb_registry.specs.Live.{Live, fresh, registration_fault, all_registered, unless_fault, registered}
use Rattle.kb_registry.specs.declared.fault.RegistryFault.{RegistryFault}

-- one more closure is registered
pub one_registered : (native : Native) (rest : List Native) (live : Live)
    → registration_fault native live ≡ None
    → all_registered (native ∷ rest) live ≡ all_registered rest (registered native live)
one_registered native rest live free =
    ap (λ fault. unless_fault fault (all_registered rest (registered native live))) free

-- or it is refused
one_refused : (native : Native) (natives rest : List Native) (live : Live) (fault : RegistryFault)
    → all_registered (native ∷ rest) live ≡ all_registered natives (fresh 1000000)
    → registration_fault native live ≡ Some fault → all_registered natives (fresh 1000000) ≡ Err fault
one_refused native natives rest live fault goes refused =
    sym goes ∙ ap (λ fault. unless_fault fault (all_registered rest (registered native live))) refused

pub refused_fails : (native : Native) (natives rest : List Native) (live : Live)
    (failure : Failure RegistryFault)
    → all_registered (native ∷ rest) live ≡ all_registered natives (fresh 1000000)
    → IsRefusalOrMemory (registration_fault native live) failure
    → Fails (load_failure file.Natives failure) (natives_held natives)
refused_fails native natives rest live failure.NoMemory goes why = tt
refused_fails native natives rest live (failure.Fault fault) goes why =
    ap (λ (r : Result Live RegistryFault). refused_by file.Natives (refusing registry.kind_of r))
    (one_refused native natives rest live fault goes why)

-- all are registered
pub all_held : (natives : List Native) (live : Live) → Ok live ≡ all_registered natives (fresh 1000000)
    → natives_held natives ≡ Ok live
all_held natives live is =
    ap (λ (r : Result Live RegistryFault). refused_by file.Natives (refusing registry.kind_of r)) (sym is)

pub ruleset registering = (one_registered, refused_fails, all_held)

-- ---- no handlers yet

natives_alone : (ns : List Native) (old live : Live) → all_registered ns old ≡ Ok live → live.code ≡ old.code
natives_alone [] old live e = let its : old ≡ live = cc in ap (λ (l : Live). l.code) (sym its)
natives_alone (native ∷ ns) old live e =
    by (registration_fault native old) (λ e. natives_alone ns (registered native old) live e) e
  where
    by : (o : Option RegistryFault)
        → (all_registered ns (registered native old) ≡ Ok live → live.code ≡ old.code)
        → unless_fault o (all_registered ns (registered native old)) ≡ Ok live → live.code ≡ old.code
    by None later e = later e
    by (Some fault) later e = absurd (cc)

held_live : (r : Result Live RegistryFault) (live : Live)
    → refused_by file.Natives (refusing registry.kind_of r) ≡ Ok live → r ≡ Ok live
held_live (Ok other) live e = let its : other ≡ live = cc in ap Ok its
held_live (Err f) live e = absurd (cc)

-- after the registration of closures there is no code
pub held_alone : (ns : List Native) (live : Live) → natives_held ns ≡ Ok live → live.code ≡ []
held_alone ns live held =
    natives_alone ns (fresh 1000000) live (held_live (all_registered ns (fresh 1000000)) live held)
