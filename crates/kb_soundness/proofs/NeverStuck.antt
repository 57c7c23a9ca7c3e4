-- A verified handler never traps.
use Rattle.std.proofs.Common.{◌≡◌, ◌<◌, ◌≤◌, ℕ, zero, suc, ◌+◌, ◌-◌, Bool, true, List, [], ◌∷◌, length, get_or, Option}
use Rattle.std.proofs.Common.{Some, None, refl, sym, ap, ◌∙◌, subst, arith, if◌then◌else◌}
use Rattle.std.specs.Prelude.{slice_get, option_map, option_and_then, nat_lt, ◌&&◌}
use Rattle.std.specs.FinMap as map
use Rattle.std.proofs.lemmas.Bool.{le-leb}
use Rattle.std.proofs.lemmas.Option.{slice_get-get_or, slice_get_within}
use Rattle.kb_core.specs.declared.arg.Arg.{Arg}
use Rattle.kb_core.specs.declared.arg.Kind.{Kind}
use Rattle.kb_core.specs.Declaration.{Declaration}
use Rattle.kb_core.specs.Signature.{fits}
use Rattle.kb_code.specs.declared.instr.Instr.{Instr}
use Rattle.kb_code.specs.declared.instr.Instr.TheVariants as i
use Rattle.kb_code.specs.Blocks.{around_at, first_of, same_block, is_bad, IsFormed}
use Rattle.kb_code.specs.Exits.{exits_of, is_exit}
use Rattle.kb_code.specs.Plain.{is_plain}
use Rattle.kb_code.proofs.BlockLemmas.{around_first, not_bad}
use Rattle.kb_code.specs.Handler.{HandlerData}
use Rattle.kb_code.specs.Reachable.{first}
use Rattle.kb_code.specs.Commands.{Callee, Plain, Coded, Table, declared_by}
use Rattle.kb_verify.specs.Callable.{Commands}
use Rattle.kb_verify.specs.Paths.{budget_in, cost}
use Rattle.kb_verify.specs.Shapes.{HasShapesBelow}
use Rattle.kb_verify.proofs.Arrivals.{cost_pos, right_at, checked_at}
use Rattle.kb_verify.proofs.Checks.{plain_around}
use Rattle.kb_verify.proofs.Edges.{equal, reach_within}
use Rattle.kb_verify.specs.Accepted.{IsCallee}
use Rattle.kb_vm.specs.declared.trap.Trap.{Trap}
use Rattle.kb_vm.specs.declared.trap.Trap.TheVariants.{OutOfBudget, BadCode, WrongArgument}
use Rattle.kb_vm.specs.Effect.{Effect, Stop, Leave, Next, Goto, Open, Turn, Enter, effect}
use Rattle.kb_vm.specs.Meaning.{World, core_of, first_world, with_step, with_line, Answer, Done, Stuck, and_then}
use Rattle.kb_vm.specs.Position.{Position, standing, outset, moved, passed, entered, turned}
use Rattle.kb_vm.specs.Meaning.{fetched, resumed, run_callee, follow, go, run, start_callee}
use Rattle.kb_soundness.specs.Sound.{IsVerified, AllVerified, IsDone, NeverStuck, StartsNeverStuck}
use Rattle.kb_soundness.proofs.Shapes.{Fit}
use Rattle.kb_soundness.proofs.Homes.{Home, out, within, some_home, home_free}
use Rattle.kb_soundness.proofs.Moves.{Moves, Lives, moves}
use Rattle.kb_soundness.proofs.Standing.{Stands, some_left, after, follows_here, goes_on_at, price_paid, has_room}
use Rattle.kb_soundness.proofs.Standing.{opens_at, ends_at, turns_at, in_block}

and_then_done : (a : Answer) (on : World → Answer) → IsDone a → ((w : World) → IsDone (on w)) →
    IsDone (and_then a on)
and_then_done (Done w) on d f = f w
and_then_done (Stuck trap command place w) on d f = absurd d

-- the index of a declared callee is within the list of calls
call_within : (commands : Commands) (h : HandlerData) (n : ℕ) (o : Option (List ℕ)) (d : Declaration) →
    slice_get h.calls n ≡ o → option_and_then (map.get commands) o ≡ Some d → n < length h.calls
call_within commands h n None d is e = absurd (cc)
call_within commands h n (Some name) d is e = slice_get_within h.calls n name is

true_and : (a b : Bool) → a ≡ true → b ≡ true → (a && b) ≡ true
true_and a b e f = ap (λ x. x && b) e ∙ f

module _ (table : Table) (all : AllVerified table) where
  -- where a run of a verified handler stands
  abbrev StandsAt : (h : HandlerData) → IsVerified table h → ℕ → Position → Type 0
  StandsAt h v left at =
      Stands v.commands h v.accepted.formed v.accepted.shapes.0 v.accepted.shapes.1 left at

  -- the claim for remaining budgets up to a bound
  abbrev Safe : ℕ → Type 0
  Safe n = (h : HandlerData) (v : IsVerified table h) (args : List Arg) → fits h.signature.params args ≡ true →
      (left : ℕ) (at : Position) (w : World) → StandsAt h v left at → left < n →
      IsDone (go n table h args left at w)

  -- a start stands, with its budget
  starts_at : (h : HandlerData) (v : IsVerified table h) → StandsAt h v h.signature.budget outset
  starts_at h v =
      let f = around_first h.code in
      record {
        reachable = first v.accepted.some_code;
        fit = subst (λ ks. Fit ks []) (sym v.accepted.shapes.1.start) tt;
        home = some_home f out;
        pays = λ steps c m path home.
            let l = v.accepted.within_budget steps c path in
            let none = home_free (subst (λ a. Home v.commands h a [] m) f home) in
            omega (arith, l, none);
      }

  callee_done : (n : ℕ) → Safe n → (name : List ℕ) (callee : Callee) (given : List Arg) (w : World) →
      table name ≡ Some callee → fits (declared_by callee).params given ≡ true →
      (declared_by callee).budget < n →
      IsDone (run_callee (go n table) callee given w)
  callee_done n ih name (Plain native) given w is f lt = tt
  callee_done n ih name (Coded g) given w is f lt =
      let v = all name g is in ih g v given f g.signature.budget outset w (starts_at g v) lt

  module _ (n : ℕ) (ih : Safe n) (h : HandlerData) (v : IsVerified table h) (args : List Arg)
      (fa : fits h.signature.params args ≡ true) (rest : ℕ) (at : Position) (s : StandsAt h v (suc rest) at)
      (x : Instr) (is : slice_get h.code at.place ≡ Some x) (w : World) (lt : rest < n) where
    abbrev formed : IsFormed h.code
    formed = v.accepted.formed

    abbrev shape : ℕ → List Kind
    shape = v.accepted.shapes.0

    abbrev has : HasShapesBelow v.commands h shape (length h.code)
    has = v.accepted.shapes.1

    abbrev behind : List Kind
    behind = after v.commands h formed shape has rest at s x is

    -- the run from a position
    done_at : (next : Position) → StandsAt h v rest next → IsDone (go n table h args rest next w)
    done_at next stands = ih h v args fa rest next w stands lt

    -- the next place
    at_next : (turns : List ℕ) (operands : List Arg) → StandsAt h v rest (standing (suc at.place) turns operands) →
        IsDone (go n table h args rest (standing (at.place + 1) turns operands) w)
    at_next turns operands stands =
        done_at (standing (at.place + 1) turns operands)
        (subst (λ q. StandsAt h v rest (standing q turns operands))
        (let e : suc at.place ≡ at.place + 1 = omega arith in e) stands)

    turn_done : (around left : List ℕ) (m : ℕ) (operands : List Arg) → x ≡ i.End → Fit behind operands →
        around_at h.code at.place ≡ around → at.turns ≡ left → Home v.commands h around left m →
        IsDone (resumed (go n table) h args rest at w (turned at.place operands (first_of around) left))
    turn_done around left m operands end fit is_around is_turns out =
        let b = not_bad h.code at.place i.End formed (is ∙ ap Some end) in
        let c = ap (is_bad i.End) is_around in absurd (cc)
    turn_done around left m operands end fit is_around is_turns
        (within {q = q} {k = zero} {around = outer} {left = others} r closes turn past home) =
        at_next others operands
        (ends_at v.commands h formed shape has rest at s x is q outer others m operands end fit is_around is_turns
        (within r closes turn past home))
    turn_done around left m operands end fit is_around is_turns
        (within {q = q} {k = suc k} {around = outer} {left = others} r closes turn past home) =
        done_at (standing (q + 1) (suc k ∷ others) operands)
        (subst (λ p. StandsAt h v rest (standing p (suc k ∷ others) operands))
        (let e : suc q ≡ q + 1 = omega arith in e)
        (turns_at v.commands h formed shape has rest at s x is q k outer others m operands end fit is_around
        is_turns (within r closes turn past home)))

    open_done : (k : ℕ) (operands : List Arg) → x ≡ i.Repeat k → Fit behind operands →
        IsDone (go n table h args rest (entered at k operands) w)
    open_done zero operands repeat fit =
        let some = formed.turns at.place zero (is ∙ ap Some repeat) in absurd (omega (arith, some))
    open_done (suc k) operands repeat fit =
        at_next (suc k ∷ at.turns) operands
        (opens_at v.commands h formed shape has rest at s x is k operands repeat fit)

    follow_done : (e : Effect) → Moves table v.commands h behind at.place x e →
        IsDone (follow (go n table) h args rest at w e)
    follow_done (Stop trap) m = absurd m
    follow_done Leave m = tt
    follow_done (Next operands) m =
        let exit : is_exit (exits_of (suc at.place) x) (suc at.place) ≡ true =
        subst (λ q. is_exit (exits_of (suc at.place) x) q ≡ true) (let e : at.place + 1 ≡ suc at.place = omega arith in e) m.1 in
        at_next at.turns operands (goes_on_at v.commands h formed shape has rest at s x is (suc at.place) operands rest m.0 exit m.2
        (λ c m l. let k = cost_pos v.commands h x in omega (arith, l, k)))
    follow_done (Goto to operands) m =
        let f = follows_here v.commands h formed shape has rest at s x is to m.1 in
        let same : (nat_lt at.place to && same_block h.code at.place to) ≡ true =
        true_and _ _ (le-leb _ _ f.later)
        (in_block h.code at.place to (plain_around h.code at.place to x is m.0 f.inside)) in
        subst (λ b. IsDone (if b then go n table h args rest (moved at to operands) w else Stuck BadCode h.command at.place w))
        (sym same)
        (done_at (moved at to operands) (goes_on_at v.commands h formed shape has rest at s x is to operands rest m.0 m.1 m.2
        (λ c m l. let k = cost_pos v.commands h x in omega (arith, l, k))))
    follow_done (Open k operands) m =
        let room = has_room v.commands h formed shape has rest at s x is k m.0 in
        subst (λ b. IsDone (if b then go n table h args rest (entered at k operands) w else Stuck BadCode h.command at.place w))
        (sym (le-leb _ _ room)) (open_done k operands m.0 m.1)
    follow_done (Turn operands) m =
        turn_done (around_at h.code at.place) at.turns s.home.0 operands m.0 m.1 refl refl s.home.1
    follow_done (Enter name callee given operands) m =
        let plain : is_plain x ≡ true = ap is_plain m.is_call in
        let exit : is_exit (exits_of (suc at.place) x) (suc at.place) ≡ true =
        subst (λ y. is_exit (exits_of (suc at.place) y) (suc at.place) ≡ true) (sym m.is_call) (equal (suc at.place)) in
        let price : cost v.commands h x ≡ 1 + (declared_by callee).budget =
        ap (cost v.commands h) m.is_call ∙ ap (λ o. 1 + budget_in o) m.declared in
        let paid = price_paid v.commands h formed shape has rest at s x is plain exit in
        let le : (declared_by callee).budget ≤ rest = omega (arith, paid, price) in
        subst (λ b. IsDone (if b then and_then (run_callee (go n table) callee given (with_line name given w))
        (λ u. go n table h args (rest - (declared_by callee).budget) (passed at operands) u)
        else Stuck OutOfBudget h.command at.place w)) (sym (le-leb _ _ le))
        (and_then_done _ _
        (callee_done n ih name callee given (with_line name given w) m.is_live m.given_fit
        (omega (arith, le, lt)))
        (λ u. ih h v args fa (rest - (declared_by callee).budget) (passed at operands) u
        (subst (λ q. StandsAt h v (rest - (declared_by callee).budget) (moved at q operands))
        (let e : suc at.place ≡ at.place + 1 = omega arith in e)
        (goes_on_at v.commands h formed shape has rest at s x is (suc at.place) operands
        (rest - (declared_by callee).budget) plain exit m.kept
        (λ c m l. omega (arith, l, price))))
        (omega (arith, lt))))

  safe : (n : ℕ) → Safe n
  safe zero = λ h v args fa left at w s lt. absurd (omega (arith, lt))
  safe (suc n) = λ h v args fa left point w s lt.
      let commands = v.commands in
      let shape = v.accepted.shapes.0 in let has = v.accepted.shapes.1 in let formed = v.accepted.formed in
      let p = point.place in
      let x = get_or h.code p i.Return in
      let at : slice_get h.code p ≡ Some x = slice_get-get_or h.code p i.Return (reach_within h.code p s.reachable) in
      let some = some_left commands h formed shape has left point s in
      let l : left ≡ suc (left - 1) = omega (arith, some) in
      let here : StandsAt h v (suc (left - 1)) point = subst (λ m. StandsAt h v m point) l s in
      let lives : Lives table commands h x = λ k d is declared.
      let callee : IsCallee commands h p k d = record {
        calls = record {
          reached = s.reachable;
          at = at ∙ ap Some is;
          named = call_within commands h k (slice_get h.calls k) d refl declared;
        };
        declares = declared;
      } in
      (v.callees p k d callee, let deep = v.accepted.within_depth p k d callee in omega (arith, deep)) in
      let is = checked_at commands h formed shape has p x here.reachable at in
      let on : Instr → ℕ → Answer = λ y rest.
      let e = effect table h args (core_of w) point.operands y in follow (go n table) h args rest point
      (with_step y rest e w) e in
      let stuck : Trap → Answer = λ trap. Stuck trap h.command p w in
      subst (λ o. IsDone (fetched o left stuck on)) (sym at)
      (subst (λ m. IsDone (fetched (Some x) m stuck on)) (sym l)
      (follow_done n (safe n) h v args fa (left - 1) point here x at _ (omega (arith, l, lt)) _
      (moves table commands h (right_at commands h formed shape has p x here.reachable at).after p args (core_of w)
      (shape p) point.operands x fa lives is.has_room is.effect_is here.fit)))

pub never_stuck : NeverStuck
unfolding run
never_stuck table all h v args fa w =
    safe table all (suc h.signature.budget) h v args fa h.signature.budget outset w (starts_at table all h v)
    (omega arith)

callee_done_at : (table : Table) → AllVerified table → (name : List ℕ) (callee : Callee) →
    table name ≡ Some callee →
    (args : List Arg) → fits (declared_by callee).params args ≡ true → (w : World) →
    IsDone (run_callee (run table) callee args w)
callee_done_at table all name (Plain native) is args f w = tt
callee_done_at table all name (Coded g) is args f w = never_stuck table all g (all name g is) args f w

pub starts_never_stuck : StartsNeverStuck
starts_never_stuck table all name callee is args f core a e =
    let answer : Callee → Answer = λ c. start_callee table name c args (first_world core) in
    let same : answer callee ≡ a = cc (ap (option_map answer) is, e) in
    subst IsDone same
    (subst (λ b. IsDone (if b then run_callee (run table) callee args (first_world core)
    else Stuck WrongArgument name 0 (first_world core))) (sym f)
    (callee_done_at table all name callee is args f (first_world core)))
