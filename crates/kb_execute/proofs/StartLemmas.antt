-- Lemmas on live commands as they are started.
use Rattle.std.proofs.Common.{◌≡◌, ◌∙◌, sym, ap, subst, refl, Bool, true, false, cond, List, [], ◌∷◌, ℕ, Some, None}
use Rattle.std.specs.Prelude.{Option, option_map, if◌then◌else◌, bytes_eq}
use Rattle.std.proofs.lemmas.Slice.Eq.{bytes_eq-Decides}
use Rattle.serde_json.specs.Data.{Data}
use Rattle.kb_code.specs.Handler.{HandlerData, handler_named}
use Rattle.kb_code.specs.Commands.{Callee, Table, Plain, Coded}
use Rattle.kb_core.specs.Native.{Fits, named, parameters_of}
use Rattle.kb_core.specs.Reading.{arguments_for}
use Rattle.kb_core.specs.Signature.{fits}
use Rattle.kb_core.specs.declared.arg.Arg.{Arg}
use Rattle.kb_core.specs.declared.native.Native.{Native}
use Rattle.kb_core.specs.Core.{Core}
use Rattle.kb_registry.specs.Live.{Live, callee, callee_by, table_of, where_live}
use Rattle.kb_execute.specs.Start.{ran, start_live, started_as, started_with}
use Rattle.kb_vm.specs.Meaning.{Stuck, first_world, run, run_callee, start_callee, start_of}
use Rattle.kb_vm.specs.Outcome.{Ends, Gives}
use Rattle.kb_vm.specs.declared.machine.Outcome.{Outcome}
use Rattle.kb_vm.specs.declared.trap.Trap.TheVariants.{WrongArgument}

-- the live command with the name of a native, if a closure is registered for it
pub native_callee : (id : List ℕ) (live : Live) (native found : Native) → named id ≡ Some native
    → where_live (Some native) live ≡ Some found → callee id live ≡ Some (Plain found)
native_callee id live native found is has = ap (λ o. callee_by o id live) is ∙ ap (option_map Plain) has

-- a handler that is found by a name has it
pub found_by_name : (id : List ℕ) (hs : List HandlerData) (h : HandlerData) → handler_named id hs ≡ Some h
    → h.command ≡ id
found_by_name id [] h e = cc
found_by_name id (x ∷ xs) h e = by (bytes_eq id x.command) refl (found_by_name id xs h) e
  where
    by : (b : Bool) → bytes_eq id x.command ≡ b → (handler_named id xs ≡ Some h → h.command ≡ id)
        → cond b (Some x) (handler_named id xs) ≡ Some h → h.command ≡ id
    by true same rest e =
        let its : id ≡ x.command = (bytes_eq-Decides id x.command).0 same in
        let is : x ≡ h = cc in
        ap (λ (g : HandlerData). g.command) (sym is) ∙ sym its
    by false same rest e = rest e

-- the start of a live handler has an answer
pub handler_ends : (table : Table) (id : List ℕ) (h : HandlerData) (args : List Arg) (core : Core) (o : Outcome)
    → table id ≡ Some (Coded h) → Gives (start_of table id args core) core o
    → Ends core (start_callee table id (Coded h) args (first_world core)) o o.finish
handler_ends table id h args core o is gives =
    subst
    (λ (k : Option Callee).
    Gives (option_map (λ callee. start_callee table id callee args (first_world core)) k) core o) is gives

-- which is that of its execution, if its arguments were read
pub handler_started : (live : Live) (id : List ℕ) (h : HandlerData) (given : Option Data) (args : List Arg)
    (core : Core) → callee id live ≡ Some (Coded h) → Some args ≡ arguments_for h.signature.params given
    → fits h.signature.params args ≡ true
    → ran (start_callee (table_of live) id (Coded h) args (first_world core)) ≡ start_live id given live core
handler_started live id h given args core is read fit =
    let table = table_of live in
    let w = first_world core in
    ap (λ b. ran (if b then run_callee (run table) (Coded h) args w else Stuck WrongArgument id 0 w)) fit
    ∙ ap (λ a. started_with table id (Coded h) a core) read
    ∙ sym (ap (λ k. started_as table id k given core) is)

-- without parameters, the empty list of arguments fits
pub bare_fits : (native : Native) → parameters_of native ≡ [] → Fits native []
bare_fits native bare = rw bare refl
