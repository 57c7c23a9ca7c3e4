-- A start among verified handlers ends without a trap.
use Rattle.std.proofs.Common.{◌≡◌, ℕ, true, List, Option, Some, None, refl, sym, ap, subst}
use Rattle.std.specs.Prelude.{IfSome, option_map}
use Rattle.kb_core.specs.declared.arg.Arg.{Arg}
use Rattle.kb_core.specs.Core.{Core}
use Rattle.kb_core.specs.Signature.{fits}
use Rattle.kb_code.specs.Commands.{Callee, Coded, Table, declared_by}
use Rattle.kb_code.specs.Handler.{HandlerData}
use Rattle.kb_vm.specs.declared.machine.End.{End}
use Rattle.kb_vm.specs.declared.machine.End.TheVariants as end
use Rattle.kb_vm.specs.declared.machine.Outcome.{Outcome}
use Rattle.kb_vm.specs.Meaning.{Answer, first_world, start_callee, start_of}
use Rattle.kb_vm.specs.Outcome.{Ends, Gives}
use Rattle.kb_soundness.specs.Sound.{AllVerified, Fits, IsDone, IsNoTrap}
use Rattle.kb_soundness.proofs.NeverStuck.{starts_never_stuck}

ends_free : (core : Core) (a : Answer) (o : Outcome) (e : End) → IsDone a → Ends core a o e → IsNoTrap e
ends_free core a o end.Done done ends = tt
ends_free core a o end.NoMemory done ends = tt
ends_free core a o end.NotFound done ends = tt
ends_free core a o (end.Trap trap command place) done ends = subst IsDone ends.2 done

gives_free : (table : Table) → AllVerified table → (name : List ℕ) (args : List Arg) (core : Core) (o : Outcome)
    (r : Option Callee) → table name ≡ r → IfSome r (λ callee. fits (declared_by callee).params args ≡ true)
    → Gives (option_map (λ callee. start_callee table name callee args (first_world core)) r) core o
    → IsNoTrap o.finish
gives_free table all name args core o None is f gives = subst IsNoTrap (sym gives.finish) tt
gives_free table all name args core o (Some callee) is f gives =
    let answer : Callee → Answer = λ c. start_callee table name c args (first_world core) in
    ends_free core (answer callee) o o.finish
    (starts_never_stuck table all name callee is args f core (answer callee) (ap (option_map answer) is)) gives

pub starts_without_trap : (table : Table) → AllVerified table → (name : List ℕ) (args : List Arg) (core : Core)
    (o : Outcome) → Fits table name args → Gives (start_of table name args core) core o → IsNoTrap o.finish
starts_without_trap table all name args core o f gives =
    gives_free table all name args core o (table name) refl f gives

-- and so does that of a live handler
pub coded_without_trap : (table : Table) → AllVerified table → (name : List ℕ) (h : HandlerData) (args : List Arg)
    (core : Core) (o : Outcome) → table name ≡ Some (Coded h) → fits h.signature.params args ≡ true
    → Gives (start_of table name args core) core o → IsNoTrap o.finish
coded_without_trap table all name h args core o live fit gives =
    starts_without_trap table all name args core o
    (subst (λ k. IfSome k (λ callee. fits (declared_by callee).params args ≡ true)) (sym live) fit) gives
