-- Verified handlers never trap.
use Rattle.std.specs.Prelude.{◌≡◌, ℕ, true, List, Option, Some, IfSome}
use Rattle.std.specs.Prelude.{option_map, option_and_then, slice_get}
use Rattle.kb_core.specs.declared.arg.Arg.{Arg}
use Rattle.kb_core.specs.Core.{Core}
use Rattle.kb_core.specs.Declaration.{Declaration}
use Rattle.kb_core.specs.Signature.{fits}
use Rattle.kb_code.specs.Handler.{HandlerData}
use Rattle.kb_code.specs.Commands.{Callee, Coded, Table, declared_by}
use Rattle.kb_verify.specs.Callable.{Commands}
use Rattle.kb_verify.specs.Accepted.{IsAccepted, IsCallee}
use Rattle.kb_vm.specs.declared.machine.End.{End}
use Rattle.kb_vm.specs.declared.machine.End.TheVariants as end
use Rattle.kb_vm.specs.Meaning.{World, Answer, Done, Stuck, run, start_of}
use Rattle.kb_vm.specs.Position.{outset}

-- the declaration of the live command at an index of a handler's list of calls
abbrev pub live_declaration_at : Table → HandlerData → ℕ → Option Declaration
live_declaration_at table h n = option_map declared_by (option_and_then table (slice_get h.calls n))

-- the handler was accepted against some commands, and each of its callees is live and declares the same
pub record IsVerified (table : Table) (h : HandlerData) : Type 0 where
  pub commands : Commands
  pub accepted : IsAccepted commands h
  pub callees : (place index : ℕ) (d : Declaration) → IsCallee commands h place index d →
      live_declaration_at table h index ≡ Some d

-- each live handler is verified
abbrev pub AllVerified : Table → Type 0
AllVerified table = (name : List ℕ) (h : HandlerData) → table name ≡ Some (Coded h) → IsVerified table h

abbrev pub IsDone : Answer → Type 0
IsDone (Done w) = Unit {0}
IsDone (Stuck trap command place w) = ⊥

-- no run of a verified handler with fitting arguments traps
abbrev pub NeverStuck : Type 0
NeverStuck = (table : Table) → AllVerified table → (h : HandlerData) → IsVerified table h →
    (args : List Arg) → fits h.signature.params args ≡ true → (w : World) →
    IsDone (run table h args h.signature.budget outset w)

-- no start of a live command with fitting arguments traps
abbrev pub StartsNeverStuck : Type 0
StartsNeverStuck = (table : Table) → AllVerified table → (name : List ℕ) (callee : Callee) →
    table name ≡ Some callee → (args : List Arg) → fits (declared_by callee).params args ≡ true →
    (core : Core) (a : Answer) → start_of table name args core ≡ Some a → IsDone a

-- the arguments of a start fit the live command, if there is one
abbrev pub Fits : Table → List ℕ → List Arg → Type 0
Fits table name args = IfSome (table name) (λ callee. fits (declared_by callee).params args ≡ true)

-- a start doesn't end with a trap
abbrev pub IsNoTrap : End → Type 0
IsNoTrap (end.Trap trap command place) = ⊥
IsNoTrap _ = Unit {0}
