-- One turn of the machine.
use Rattle.std.proofs.Common.{◌≡◌, ◌<◌, ◌≤◌, ℕ, ◌+◌, ◌-◌, Bool, List, [], ◌∷◌, ◌++◌, Some, None}
use Rattle.std.proofs.Common.{sym, ap, ◌∙◌, arith, if◌then◌else◌}
use Rattle.std.proofs.lemmas.Bool.{le-leb, lt-leb}
use Rattle.kb_core.specs.declared.arg.Arg.{Arg}
use Rattle.kb_core.specs.Core.{Core}
use Rattle.kb_vm.specs.declared.machine.Machine.{Machine}
use Rattle.kb_vm.specs.declared.machine.Turn.{Turn}
use Rattle.kb_vm.specs.declared.machine.Turn.TheVariants as turn
use Rattle.kb_vm.specs.declared.trap.Trap.TheVariants.{OutOfBudget}
use Rattle.kb_vm.specs.CallLine.{call_line}
use Rattle.kb_code.specs.Commands.{Callee, Plain, Coded, Table, declared_by}
use Rattle.kb_vm.specs.Effect.{Enter}
use Rattle.kb_vm.specs.Meaning.{World, with_line, Answer, Done, Stuck, and_then, run_callee, run}
use Rattle.kb_vm.specs.Meaning.{native_called, natives_of, first_world}
use Rattle.kb_vm.specs.Outcome.{Shows}
use Rattle.kb_vm.specs.Position.{outset, passed}
use Rattle.kb_vm.specs.State.{finish, position_of, rest, rest_of, TurnedFrom, Pays, PaysFrom, credit}
use Rattle.kb_vm.specs.State.{Begins, Begun}
use Rattle.kb_vm.specs.Action.{IsCallable}
use Rattle.kb_vm.specs.declared.machine.Frame.{Frame}
use Rattle.kb_code.specs.Handler.{HandlerData}
use Rattle.kb_core.specs.declared.native.Native.{Native}
use Rattle.kb_core.specs.Core.{core_after}
use Rattle.kb_core.specs.Native.{budget_of}
use Rattle.std.specs.Prelude.{sum_by}
use Rattle.std.proofs.lemmas.List.Sums.{sum_by-append}
use Rattle.kb_vm.specs.Leave.{Keeps, Left}
use Rattle.kb_vm.proofs.Frames.{finish_stuck}

-- a call, by whether its frame can pay for it
enter_if : Table → Machine → List ℕ → Callee → List Arg → List Arg → World → Bool → Answer
enter_if table m name callee given operands w b = finish table m.callers (if b then and_then (run_callee (run table) callee given (with_line name given w)) (λ u. run table m.frame.handler m.frame.args (m.frame.left - (declared_by callee).budget) (passed (position_of m.frame) operands) u) else Stuck OutOfBudget m.frame.handler.command m.frame.place w)

pub entered_poor : (table : Table) (m : Machine) (name : List ℕ) (callee : Callee) (given operands : List Arg)
    (w : World) → m.frame.left < (declared_by callee).budget
    → rest_of table m (Enter name callee given operands) w
    ≡ Stuck OutOfBudget m.frame.handler.command m.frame.place w
unfolding enter_if
entered_poor table m name callee given operands w lt =
    ap (enter_if table m name callee given operands w) (lt-leb _ _ lt)
    ∙ finish_stuck table m.callers OutOfBudget m.frame.handler.command m.frame.place w

-- the rest of the run after the frame paid for a callee
abbrev pub paid : Table → Machine → ℕ → Callee → List Arg → List Arg → World → Answer
paid table m most callee given operands w =
    finish table m.callers (and_then (run_callee (run table) callee given w)
    (λ u. run table m.frame.handler m.frame.args (m.frame.left - most) (passed (position_of m.frame) operands) u))

pub entered_rich : (table : Table) (m : Machine) (name : List ℕ) (callee k : Callee) (most : ℕ)
    (given operands : List Arg) (w : World) → most ≤ m.frame.left → most ≡ (declared_by callee).budget → callee ≡ k
    → rest_of table m (Enter name callee given operands) w
    ≡ paid table m most k given operands (with_line name given w)
unfolding enter_if
entered_rich table m name callee k most given operands w le e is =
    let le' : (declared_by callee).budget ≤ m.frame.left = omega (arith, e) in
    ap (enter_if table m name callee given operands w) (le-leb _ _ le')
    ∙ ap (λ b. paid table m b callee given operands (with_line name given w)) (sym e)
    ∙ ap (λ c. paid table m most c given operands (with_line name given w)) is

pub line_shows : (w : World) (core : Core) (lines more : List (List ℕ)) (spent : ℕ) (name : List ℕ)
    (given : List Arg) → more ≡ lines ++ call_line name given ∷ [] → Shows w core lines spent
    → Shows (with_line name given w) core more spent
line_shows w core lines more spent name given is s = record {
  core_is = s.core_is;
  lines_are = ap (λ l. l ++ call_line name given ∷ []) s.lines_are ∙ sym is;
  at_least = s.at_least;
  at_most = s.at_most;
}

-- the world after a frame's run has its cost
pub paused_shows : (w v : World) (core : Core) (lines : List (List ℕ)) (spent n more : ℕ)
    → Shows w core lines spent → Begun n w v → more ≡ n → Shows v core lines (spent + more)
paused_shows w v core lines spent n more s b is =
    let sum = ap (sum_by budget_of) b.natives in
    record {
      core_is = b.core ∙ s.core_is;
      lines_are = b.lines ∙ s.lines_are;
      at_least = omega (arith, s.at_least, b.steps, is);
      at_most = omega (arith, s.at_most, b.steps, is, sum);
    }

-- the cost after a frame's run is a cost of the whole turn
pub paid_on : (m n : Machine) (t : Turn) → n.spent + credit n ≤ m.spent + credit m → credit n < credit m
    → PaysFrom 0 n t → Pays m t
paid_on m n (turn.On o) all less p = (omega (arith, all, p.0), omega (arith, less, p.1))
paid_on m n (turn.Ended o) all less p = omega (arith, all, p)
paid_on m n (turn.Trapped o trap) all less p = omega (arith, all, p)
paid_on m n (turn.NoMemory o) all less p = omega (arith, all, p)

pub native_shows : (w : World) (n : Native) (args : List Arg) (core next : Core) (lines : List (List ℕ))
    (spent cost more : ℕ) → Shows w core lines spent → next ≡ core_after n args core → cost ≤ budget_of n
    → more ≡ cost → Shows (native_called n args w) next lines (spent + more)
native_shows w n args core next lines spent cost more s is le e =
    let sum = sum_by-append budget_of (natives_of w) (n ∷ []) in
    record {
      core_is = ap (core_after n args) s.core_is ∙ sym is;
      lines_are = s.lines_are;
      at_least = omega (arith, s.at_least);
      at_most = omega (arith, s.at_most, sum, le, e);
    }

kept_shows : (w : World) (m n : Machine) → Keeps m n → Shows w m.core m.lines m.spent → Shows w n.core n.lines n.spent
kept_shows w m n k s = record {
  core_is = s.core_is ∙ sym k.core;
  lines_are = s.lines_are ∙ sym k.lines;
  at_least = omega (arith, s.at_least, k.spent);
  at_most = omega (arith, s.at_most, k.spent);
}

pub left_turned : (table : Table) (m : Machine) (t : Turn) (w : World) → Shows w m.core m.lines m.spent
    → Left table m t → TurnedFrom table (finish table m.callers (Done w)) t
left_turned table m (turn.On n) w s l = (w, kept_shows w m n l.0 s, l.1 w)
left_turned table m (turn.Ended n) w s l = (w, kept_shows w m n l.0 s, l.1 w)
left_turned table m (turn.Trapped n trap) w s l = absurd l
left_turned table m (turn.NoMemory n) w s l = absurd l

pub left_pays : (m : Machine) (t : Turn) → Left (λ name. None) m t → PaysFrom 0 m t
left_pays m (turn.On n) l = (omega (arith, l.0.spent, l.0.credit), omega (arith, l.0.credit))
left_pays m (turn.Ended n) l = omega (arith, l.0.spent, l.0.credit)
left_pays m (turn.Trapped n trap) l = absurd l
left_pays m (turn.NoMemory n) l = absurd l

pub begun : (table : Table) (h : HandlerData) (args : List Arg) (core : Core) (m : Machine) → Begins h args core m
    → run table h args h.signature.budget outset (first_world core) ≡ rest table m (first_world core)
begun table h args core m b =
    let w = first_world core in
    let at = position_of m.frame in
    sym (ap (λ fs. finish table fs (run table m.frame.handler m.frame.args m.frame.left at w)) b.no_callers
    ∙ ap (λ g. run table g m.frame.args m.frame.left at w) b.handler_is
    ∙ ap (λ vs. run table h vs m.frame.left at w) b.args_are
    ∙ ap (λ n. run table h args n at w) b.whole_budget
    ∙ ap (λ p. run table h args h.signature.budget p w) b.at_outset)

pub begun_shows : (h : HandlerData) (args : List Arg) (core : Core) (m : Machine) → Begins h args core m
    → Shows (first_world core) m.core m.lines m.spent
begun_shows h args core m b = record {
  core_is = sym b.core_is;
  lines_are = sym b.no_lines;
  at_least = omega arith;
  at_most = omega (arith, b.nothing_spent);
}

pub begun_bound : (h : HandlerData) (args : List Arg) (core : Core) (m : Machine) → Begins h args core m
    → m.spent + credit m ≤ h.signature.budget
begun_bound h args core m b =
    let none = ap (sum_by (λ (f : Frame). f.left)) b.no_callers in
    omega (arith, none, b.nothing_spent, b.whole_budget)

-- a command that was found is callable
pub found_callable : (table : Table) (name : List ℕ) (callee : Callee) → Some callee ≡ table name
    → IsCallable table callee
found_callable table name (Plain native) e = (name, sym e)
found_callable table name (Coded handler) e = tt
