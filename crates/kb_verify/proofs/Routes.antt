-- A walk so far, as a list of steps.
use Rattle.std.proofs.Common.{◌≡◌, ◌<◌, ◌≤◌, ℕ, suc, ◌+◌, ◌*◌, ◌^◌, Bool, true, false, List, [], ◌∷◌, ◌++◌, map}
use Rattle.std.proofs.Common.{length, get_or, Vec, Global, Some, refl, sym, ap, ◌∙◌, subst, arith}
use Rattle.std.specs.Prelude.{slice_get, slice_index, nat_lt, ◌==◌}
use Rattle.std.proofs.lemmas.Bool.{lt-ltb, le-ltb}
use Rattle.std.proofs.lemmas.Option.{slice_get-get_or}
use Rattle.kb_code.specs.Handler.{HandlerData}
use Rattle.kb_verify.specs.Callable.{Commands}
use Rattle.kb_code.specs.declared.instr.Instr.{Instr}
use Rattle.kb_code.specs.declared.instr.Instr.TheVariants as i
use Rattle.kb_core.specs.declared.arg.Kind.{Kind}
use Rattle.kb_code.specs.declared.exits.Exits.{Exits}
use Rattle.kb_code.specs.declared.exits.Exits.TheVariants.{Stop, One, Two, Around, Close}
use Rattle.kb_code.specs.Blocks.{IsFormed, Closes}
use Rattle.kb_code.specs.Exits.{exits_of, is_exit}
use Rattle.kb_code.specs.Reachable.{Follows, Reachable, onward}
use Rattle.kb_verify.specs.Shapes.{HasShapesBelow}
use Rattle.kb_verify.specs.Paths.{cost, Steps, Nothing, Choice, Turns, Path, returns, ends, goes_on, falls, jumps, repeats}
use Rattle.kb_code.proofs.BlockLemmas.{start_before, one_end}
use Rattle.kb_code.proofs.Booleans.{or_left, or_right}
use Rattle.kb_verify.proofs.Edges.{equal, reach_within}
use Rattle.kb_verify.proofs.Arrivals.{HasBlock, follows_at, block_at}
use Rattle.kb_verify.specs.declared.fault.Step.{Step}
use Rattle.kb_verify.specs.declared.fault.Step.TheVariants as step
use Rattle.kb_verify.specs.declared.fault.Step.TheVariants.{rolls-Choice, rolls-Turns}
use Rattle.kb_verify.specs.declared.fault.Step.TheFolds.{fold-roll-Step}
use Rattle.kb_verify.specs.declared.fault.Step.TheOpen.{Step-F}
use Rattle.kb_verify.specs.Costs.{capped, later_cost, AreCosts, IsDearestFrom}
use Rattle.kb_verify.specs.Route.{one_after, step_before, before, all_before, route_of}
use Rattle.kb_verify.proofs.Costly.{times_even}
use Rattle.kb_verify.proofs.Dearest.{later_is, cost_at, cost_around}

all_same : (ss : List Step) (rest : Steps) → one_after (map before ss) rest ≡ all_before ss rest
all_same [] rest = refl
all_same (s ∷ ss) rest = ap (before s) (all_same ss rest)

last_before : (ss : List Step) (s : Step) (rest : Steps) →
    all_before (ss ++ s ∷ []) rest ≡ all_before ss (before s rest)
last_before [] s rest = refl
last_before (x ∷ ss) s rest = ap (before x) (last_before ss s rest)

pub choice_before : (jumped : Bool) (rest : Steps) → before (step.Choice jumped) rest ≡ Choice jumped rest
choice_before jumped rest =
    ap (λ s. before s rest) (sym (rolls-Choice jumped))
    ∙ ap (λ f. f rest) (fold-roll-Step (Steps → Steps) step_before (Step-F.Choice jumped))

pub turn_before : (v : Vec Step Global) (rest : Steps) → before (step.Turns v) rest ≡ Turns (route_of v.items) rest
turn_before v rest =
    ap (λ s. before s rest) (sym (rolls-Turns v))
    ∙ ap (λ f. f rest) (fold-roll-Step (Steps → Steps) step_before (Step-F.Turns v))
    ∙ ap (λ x. Turns x rest) (all_same v.items Nothing)

-- the instruction that is read at a place
abbrev pub instr_in : List Instr → ℕ → Instr
instr_in code p = get_or code p i.Return

even_on : (spent extra cut from next here : ℕ) → here ≡ capped (cut + next) → capped extra ≡ capped cut →
    capped (spent + here) ≡ from → capped (spent + extra + next) ≡ from
even_on spent extra cut from next here e f g = omega (arith, e, f, g)

add_on : (a b c : ℕ) → a + (b + c) ≡ a + b + c
add_on a b c = omega arith

-- any path from here on is a path from the start, and the dearest one is a dearest one
pub record IsRouted (commands : Commands) (h : HandlerData) (costs : List ℕ) (start place : ℕ) (steps : List Step) : Type 0 where
  pub here : Reachable h.code place
  pub spent : ℕ
  pub adds : (rest : Steps) (d : ℕ) → Path commands h place rest d →
      Path commands h start (all_before steps rest) (spent + d)
  pub even : capped (spent + slice_index costs place) ≡ slice_index costs start

module _ (commands : Commands) (h : HandlerData) (formed : IsFormed h.code) (shape : ℕ → List Kind)
    (has : HasShapesBelow commands h shape (length h.code)) (costs : List ℕ) (are : AreCosts commands h costs) (start : ℕ) where
  abbrev Routed : ℕ → List Step → Type 0
  Routed = IsRouted commands h costs start

  pub routed_start : Reachable h.code start → slice_index costs start < 2 ^ 64 → Routed start []
  routed_start r fits = record {
    here = r;
    spent = 0;
    adds = λ rest d path. let e : d ≡ 0 + d = omega arith in subst (Path commands h start rest) e path;
    even = omega (arith, fits);
  }

  at_in : (p : ℕ) → Reachable h.code p → slice_get h.code p ≡ Some (instr_in h.code p)
  at_in p r = slice_get-get_or h.code p i.Return (reach_within h.code p r)

  -- one step more
  routed_on : (p q extra cut : ℕ) (steps : List Step) (s : Step) → Routed p steps → Reachable h.code q →
      slice_index costs p ≡ capped (cut + slice_index costs q) → capped extra ≡ capped cut →
      ((rest : Steps) (d : ℕ) → Path commands h q rest d → Path commands h p (before s rest) (extra + d)) →
      Routed q (steps ++ s ∷ [])
  routed_on p q extra cut steps s w r here same goes = record {
    here = r;
    spent = w.spent + extra;
    adds = λ rest d on.
        subst (Path commands h start (all_before (steps ++ s ∷ []) rest)) (add_on w.spent extra d)
        (subst (λ l. Path commands h start l (w.spent + (extra + d))) (sym (last_before steps s rest))
        (w.adds (before s rest) (extra + d) (goes rest d on)));
    even = even_on w.spent extra cut (slice_index costs start) (slice_index costs q) (slice_index costs p)
        here same w.even;
  }

  follows_in : (p q : ℕ) → Reachable h.code p → is_exit (exits_of (suc p) (instr_in h.code p)) q ≡ true →
      Follows h.code p q
  follows_in p q r is = follows_at commands h formed shape has p q (instr_in h.code p) r (at_in p r) is

  exit_by : (p q : ℕ) (exits : Exits) → exits_of (suc p) (instr_in h.code p) ≡ exits → is_exit exits q ≡ true →
      is_exit (exits_of (suc p) (instr_in h.code p)) q ≡ true
  exit_by p q exits e is = ap (λ x. is_exit x q) e ∙ is

  pub routed_one : (p q : ℕ) (steps : List Step) → exits_of (suc p) (instr_in h.code p) ≡ One q →
      Routed p steps → (p < q) × Routed q steps
  routed_one p q steps e w =
      let x = instr_in h.code p in
      let f = follows_in p q w.here (exit_by p q (One q) e (equal q)) in
      let l = cost_at commands h costs are p x (One q) (at_in p w.here) e (λ n q s. absurd (cc)) in
      let i = later_is costs p q f.later in (
        f.later,
        record {
          here = onward w.here f;
          spent = w.spent + cost commands h x;
          adds = λ rest d on.
              subst (Path commands h start (all_before steps rest)) (add_on w.spent (cost commands h x) d)
              (w.adds rest (cost commands h x + d) (goes_on x (at_in p w.here) e f.later on));
          even = even_on w.spent (cost commands h x) (cost commands h x) (slice_index costs start) (slice_index costs q)
              (slice_index costs p) (omega (arith, l, i)) refl w.even;
        },
      )

  pub routed_jump : (p q t a b : ℕ) (steps longer : List Step) →
      exits_of (suc p) (instr_in h.code p) ≡ Two q t → a ≡ later_cost costs p q → b ≡ later_cost costs p t →
      longer ≡ steps ++ step.Choice (nat_lt a b) ∷ [] → a < b → Routed p steps → (p < t) × Routed t longer
  routed_jump p q t a b steps longer e is_a is_b is lt w =
      let x = instr_in h.code p in
      let f = follows_in p t w.here (exit_by p t (Two q t) e (or_right (t == q) (t == t) (equal t))) in
      let l = cost_at commands h costs are p x (Two q t) (at_in p w.here) e (λ n q s. absurd (cc)) in
      let i = later_is costs p t f.later in (
        f.later,
        subst (Routed t) (sym (is ∙ ap (λ y. steps ++ step.Choice y ∷ []) (lt-ltb a b lt)))
            (routed_on p t (cost commands h x) (cost commands h x) steps (step.Choice true) w (onward w.here f)
            (omega (arith, l, i, is_a, is_b, lt)) refl
            (λ rest d on. subst (λ y. Path commands h p y (cost commands h x + d)) (sym (choice_before true rest))
            (jumps x (at_in p w.here) e f.later on))),
      )

  pub routed_fall : (p q t a b : ℕ) (steps longer : List Step) →
      exits_of (suc p) (instr_in h.code p) ≡ Two q t → a ≡ later_cost costs p q → b ≡ later_cost costs p t →
      longer ≡ steps ++ step.Choice (nat_lt a b) ∷ [] → b ≤ a → Routed p steps → (p < q) × Routed q longer
  routed_fall p q t a b steps longer e is_a is_b is le w =
      let x = instr_in h.code p in
      let f = follows_in p q w.here (exit_by p q (Two q t) e (or_left (q == q) (q == t) (equal q))) in
      let l = cost_at commands h costs are p x (Two q t) (at_in p w.here) e (λ n q s. absurd (cc)) in
      let i = later_is costs p q f.later in (
        f.later,
        subst (Routed q) (sym (is ∙ ap (λ y. steps ++ step.Choice y ∷ []) (le-ltb a b le)))
            (routed_on p q (cost commands h x) (cost commands h x) steps (step.Choice false) w (onward w.here f)
            (omega (arith, l, i, is_a, is_b, le)) refl
            (λ rest d on. subst (λ y. Path commands h p y (cost commands h x + d)) (sym (choice_before false rest))
            (falls x (at_in p w.here) e f.later on))),
      )

  pub has_block : (p n q : ℕ) → Reachable h.code p → exits_of (suc p) (instr_in h.code p) ≡ Around n q →
      HasBlock h.code p n q
  has_block p n q r e = block_at commands h formed shape has p n q (instr_in h.code p) r (at_in p r) e

  pub routed_turn : (p n q e : ℕ) (steps longer : List Step) (v : Vec Step Global) →
      exits_of (suc p) (instr_in h.code p) ≡ Around n q → Closes h.code p e →
      IsDearestFrom commands h costs q (route_of v.items) → longer ≡ steps ++ step.Turns v ∷ [] →
      Routed p steps → (p < e + 1) × Routed (e + 1) longer
  routed_turn p n q e steps longer v is_around closes turn is w =
      let x = instr_in h.code p in
      let b = has_block p n q w.here is_around in
      let l = cost_around commands h costs are p n q e x (at_in p w.here) is_around closes in
      let i = later_is costs p q b.later in
      let after = start_before h.code p e closes in
      let past : p < e + 1 = omega (arith, after) in
      let j = later_is costs p (e + 1) past in
      let m = times_even n turn.cost (slice_index costs q) b.turns turn.is_dearest in
      let o : n * (later_cost costs p q + 1) ≡ n * (slice_index costs q + 1) = ap (λ x. n * (x + 1)) i in
      let same : b.end ≡ e = one_end h.code p b.end e b.closes closes in (
        past,
        subst (Routed (e + 1)) (sym is)
            (routed_on p (e + 1) (cost commands h x + n * (turn.cost + 1)) (cost commands h x + n * (slice_index costs q + 1)) steps
            (step.Turns v) w (subst (λ r. Reachable h.code (r + 1)) same b.past)
            (omega (arith, l, o, j)) (omega (arith, m))
            (λ rest d on. subst (λ t. Path commands h p t (cost commands h x + n * (turn.cost + 1) + d)) (sym (turn_before v rest))
            (subst (Path commands h p (Turns (route_of v.items) rest)) (add_on (cost commands h x) (n * (turn.cost + 1)) d)
            (repeats x (at_in p w.here) is_around b.later closes turn.is_path
            (subst (λ r. Path commands h r rest d) (let t : e + 1 ≡ suc e = omega arith in t) on))))),
      )

  pub routed_stop : (p : ℕ) (steps : List Step) → exits_of (suc p) (instr_in h.code p) ≡ Stop → Routed p steps →
      IsDearestFrom commands h costs start (route_of steps)
  routed_stop p steps e w =
      let x = instr_in h.code p in
      let l = cost_at commands h costs are p x Stop (at_in p w.here) e (λ n q s. absurd (cc)) in
      let even = w.even in
      record {
        cost = w.spent + cost commands h x;
        is_path = w.adds Nothing (cost commands h x) (returns x (at_in p w.here) e);
        is_dearest = omega (arith, l, even);
      }

  pub routed_close : (p q : ℕ) (steps : List Step) → exits_of (suc p) (instr_in h.code p) ≡ Close q →
      Routed p steps → IsDearestFrom commands h costs start (route_of steps)
  routed_close p q steps e w =
      let x = instr_in h.code p in
      let l = cost_at commands h costs are p x (Close q) (at_in p w.here) e (λ n q s. absurd (cc)) in
      let even = w.even in
      record {
        cost = w.spent + 0;
        is_path = w.adds Nothing 0 (ends x (at_in p w.here) e);
        is_dearest = omega (arith, l, even);
      }

-- the exits of the instruction that was read
pub read_exits : (code read : List Instr) (p : ℕ) (r exits : Exits) → read ≡ code →
    r ≡ exits_of (suc p) (get_or read p i.Return) → r ≡ exits → exits_of (suc p) (instr_in code p) ≡ exits
read_exits code read p r exits same is e =
    ap (λ xs. exits_of (suc p) (get_or xs p i.Return)) (sym same) ∙ sym is ∙ e
