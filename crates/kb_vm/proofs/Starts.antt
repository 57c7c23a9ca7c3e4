-- The start of a command in which nothing runs.
use Rattle.std.proofs.Common.{◌≡◌, inl, ℕ, List, [], Bool, true, false, refl, sym, ap, arith, if◌then◌else◌, ◌∙◌}
use Rattle.std.proofs.Common.{Some, option_map}
use Rattle.kb_core.specs.declared.arg.Arg.{Arg}
use Rattle.kb_core.specs.Core.{Core}
use Rattle.kb_core.specs.Signature.{fits}
use Rattle.kb_vm.specs.declared.machine.Outcome.{Outcome}
use Rattle.kb_vm.specs.declared.machine.End.TheVariants as end
use Rattle.kb_vm.specs.declared.trap.Trap.TheVariants.{WrongArgument}
use Rattle.kb_code.specs.Commands.{Callee, Coded, Table, declared_by}
use Rattle.kb_code.specs.Handler.{HandlerData}
use Rattle.kb_vm.specs.Meaning.{World, Answer, Stuck, run_callee, run, first_world, start_callee, start_of}
use Rattle.kb_vm.specs.Position.{outset}
use Rattle.kb_vm.specs.Memory.{IsBegun}
use Rattle.kb_vm.specs.Outcome.{Shows, Precedes, Ends, world_of}

abbrev start_if : Table → List ℕ → Callee → List Arg → World → Bool → Answer
start_if table name callee args w b = if b then run_callee (run table) callee args w else Stuck WrongArgument name 0 w

-- arguments that don't fit
pub misfit : (table : Table) (name : List ℕ) (callee : Callee) (args : List Arg) (w : World)
    → fits (declared_by callee).params args ≡ false
    → start_callee table name callee args w ≡ Stuck WrongArgument name 0 w
misfit table name callee args w unfit = ap (start_if table name callee args w) unfit

pub unspent_shows : (core after : Core) (lines : List (List ℕ)) (spent : ℕ) → after ≡ core → lines ≡ []
    → spent ≡ 0 → Shows (first_world core) after lines spent
unspent_shows core after lines spent c l s = record {
  core_is = sym c;
  lines_are = sym l;
  at_least = omega arith;
  at_most = omega (arith, s);
}

-- the start of a live handler, with arguments that fit it, runs it
pub coded_start : (table : Table) (name : List ℕ) (h : HandlerData) (args : List Arg) (core : Core)
    → table name ≡ Some (Coded h) → fits h.signature.params args ≡ true
    → start_of table name args core ≡ Some (run table h args h.signature.budget outset (first_world core))
coded_start table name h args core live fit =
    ap (option_map (λ callee. start_callee table name callee args (first_world core))) live
    ∙ ap (λ b. Some (start_if table name (Coded h) args (first_world core) b)) fit

-- memory is refused before anything is done
pub lacks_first : (core : Core) (a : Answer) (o : Outcome) → o.core ≡ core → o.lines ≡ [] → o.spent ≡ 0
    → Precedes (first_world core) (world_of a) → IsBegun a → Ends core a o end.NoMemory
lacks_first core a o c l s keeps begun =
    (first_world core, unspent_shows core _ _ _ c l s, keeps, inl (refl, begun))

-- an outcome has the fields of the machine that ended
pub taken_shows : (v : World) (core : Core) (lines : List (List ℕ)) (spent : ℕ) (o : Outcome) → o.core ≡ core
    → o.lines ≡ lines → o.spent ≡ spent → Shows v core lines spent → Shows v o.core o.lines o.spent
taken_shows v core lines spent o c l s shows = record {
  core_is = shows.core_is ∙ sym c;
  lines_are = shows.lines_are ∙ sym l;
  at_least = omega (arith, s, shows.at_least);
  at_most = omega (arith, s, shows.at_most);
}
