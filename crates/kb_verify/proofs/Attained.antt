-- From each reachable place a path has the cost of the table, as far as that goes.
use Rattle.std.proofs.Common.{◌≡◌, ◌<◌, ◌≤◌, ℕ, zero, suc, ◌+◌, ◌*◌, ◌^◌, inl, inr, true, false, List, length, get_or}
use Rattle.std.proofs.Common.{Some, refl, sym, ap, ◌∙◌, subst, arith}
use Rattle.std.specs.Prelude.{slice_get, slice_index, ◌==◌}
use Rattle.std.proofs.lemmas.Bool.{cases_lt}
use Rattle.std.proofs.lemmas.Option.{slice_get-get_or}
use Rattle.kb_core.specs.declared.arg.Kind.{Kind}
use Rattle.kb_code.specs.declared.exits.Exits.{Exits}
use Rattle.kb_code.specs.declared.exits.Exits.TheVariants.{Stop, One, Two, Around, Close}
use Rattle.kb_code.specs.declared.instr.Instr.{Instr}
use Rattle.kb_code.specs.declared.instr.Instr.TheVariants.{Return}
use Rattle.kb_code.specs.Blocks.{IsFormed}
use Rattle.kb_code.specs.Exits.{exits_of, is_exit}
use Rattle.kb_code.specs.Handler.{HandlerData}
use Rattle.kb_code.specs.Reachable.{Follows, Reachable, first, onward}
use Rattle.kb_code.proofs.Booleans.{or_left, or_right}
use Rattle.kb_verify.specs.Callable.{Commands}
use Rattle.kb_verify.specs.Costs.{capped, later_cost, AreCosts, IsDearestFrom}
use Rattle.kb_verify.specs.Paths.{cost, Steps, Nothing, Choice, Turns, Path, returns, ends, goes_on, falls, jumps}
use Rattle.kb_verify.specs.Paths.{repeats, IsDearestCost}
use Rattle.kb_verify.specs.Shapes.{HasShapesBelow}
use Rattle.kb_verify.proofs.Arrivals.{follows_at, block_at}
use Rattle.kb_verify.proofs.Costly.{times_even}
use Rattle.kb_verify.proofs.Dearest.{later_is, cost_at, cost_around, path_most}
use Rattle.kb_verify.proofs.Edges.{equal, reach_within}
use Rattle.kb_verify.proofs.Routes.{instr_in}

module _ (commands : Commands) (h : HandlerData) (formed : IsFormed h.code) (shape : ℕ → List Kind)
    (has : HasShapesBelow commands h shape (length h.code)) (costs : List ℕ) (are : AreCosts commands h costs) where
  abbrev pub HasDearest : ℕ → Type 0
  HasDearest p = (steps : Steps) × IsDearestFrom commands h costs p steps

  at_in : (p : ℕ) → Reachable h.code p → slice_get h.code p ≡ Some (instr_in h.code p)
  at_in p r = slice_get-get_or h.code p Return (reach_within h.code p r)

  goes : (p q : ℕ) (exits : Exits) → Reachable h.code p → exits_of (suc p) (instr_in h.code p) ≡ exits →
      is_exit exits q ≡ true → Follows h.code p q
  goes p q exits r e is =
      follows_at commands h formed shape has p q (instr_in h.code p) r (at_in p r) (ap (λ x. is_exit x q) e ∙ is)

  dearest_by : (p : ℕ) → Reachable h.code p → ((q : ℕ) → p < q → Reachable h.code q → HasDearest q) →
      (exits : Exits) → exits_of (suc p) (instr_in h.code p) ≡ exits → HasDearest p
  dearest_by p r later Stop e =
      let x = instr_in h.code p in
      let l = cost_at commands h costs are p x Stop (at_in p r) e (λ n q s. absurd (cc)) in
      (Nothing, record { cost = cost commands h x; is_path = returns x (at_in p r) e; is_dearest = sym l })
  dearest_by p r later (Close q) e =
      let x = instr_in h.code p in
      let l = cost_at commands h costs are p x (Close q) (at_in p r) e (λ n q s. absurd (cc)) in
      (Nothing, record { cost = 0; is_path = ends x (at_in p r) e; is_dearest = sym l })
  dearest_by p r later (One q) e =
      let x = instr_in h.code p in
      let f = goes p q (One q) r e (equal q) in
      let l = cost_at commands h costs are p x (One q) (at_in p r) e (λ n q s. absurd (cc)) in
      let i = later_is costs p q f.later in
      let on = later q f.later (onward r f) in
      let even = on.1.is_dearest in (
        on.0,
        record {
          cost = cost commands h x + on.1.cost;
          is_path = goes_on x (at_in p r) e f.later on.1.is_path;
          is_dearest = omega (arith, l, i, even);
        },
      )
  dearest_by p r later (Two a b) e =
      let x = instr_in h.code p in
      let f = goes p a (Two a b) r e (or_left (a == a) (a == b) (equal a)) in
      let g = goes p b (Two a b) r e (or_right (b == a) (b == b) (equal b)) in
      let l = cost_at commands h costs are p x (Two a b) (at_in p r) e (λ n q s. absurd (cc)) in
      let i = later_is costs p a f.later in
      let j = later_is costs p b g.later in
      let on_a = later a f.later (onward r f) in
      let on_b = later b g.later (onward r g) in
      elim (cases_lt (slice_index costs a) (slice_index costs b)) [
        | inl lt ↦ let even = on_b.1.is_dearest in (
          Choice true on_b.0,
          record {
            cost = cost commands h x + on_b.1.cost;
            is_path = jumps x (at_in p r) e g.later on_b.1.is_path;
            is_dearest = omega (arith, l, i, j, even, lt);
          },
        )
        | inr le ↦ let even = on_a.1.is_dearest in (
          Choice false on_a.0,
          record {
            cost = cost commands h x + on_a.1.cost;
            is_path = falls x (at_in p r) e f.later on_a.1.is_path;
            is_dearest = omega (arith, l, i, j, even, le);
          },
        )
      ]
  dearest_by p r later (Around n q) e =
      let x = instr_in h.code p in
      let b = block_at commands h formed shape has p n q x r (at_in p r) e in
      let end = b.end in
      let after = b.after in
      let next : end + 1 ≡ suc end = omega arith in
      let past : p < end + 1 = omega (arith, after) in
      let inner = later q b.later b.inner in
      let rest = later (suc end) (omega (arith, after)) (subst (Reachable h.code) next b.past) in
      let l = cost_around commands h costs are p n q end x (at_in p r) e b.closes in
      let i = later_is costs p q b.later in
      let j : later_cost costs p (end + 1) ≡ slice_index costs (suc end) =
      later_is costs p (end + 1) past ∙ ap (slice_index costs) next in
      let m = times_even n inner.1.cost (slice_index costs q) b.turns inner.1.is_dearest in
      let o : n * (later_cost costs p q + 1) ≡ n * (slice_index costs q + 1) = ap (λ y. n * (y + 1)) i in
      let even = rest.1.is_dearest in (
        Turns inner.0 rest.0,
        record {
          cost = cost commands h x + (n * (inner.1.cost + 1) + rest.1.cost);
          is_path = repeats x (at_in p r) e b.later b.closes inner.1.is_path rest.1.is_path;
          is_dearest = omega (arith, l, m, o, j, even);
        },
      )

  dearest_from : (n p : ℕ) → length h.code ≤ p + n → Reachable h.code p → HasDearest p
  dearest_from zero p le r = let lt = reach_within h.code p r in absurd (omega (arith, le, lt))
  dearest_from (suc n) p le r =
      dearest_by p r (λ q lt s. dearest_from n q (omega (arith, le, lt)) s) (exits_of (suc p) (instr_in h.code p)) refl

  -- where no path costs more than some number of 64 bits, the first cost is that of a most expensive path
  pub dearest_is : (budget : ℕ) → budget < 2 ^ 64 → 0 < length h.code
      → ((path : Steps) (c : ℕ) → Path commands h 0 path c → c ≤ budget)
      → IsDearestCost commands h (slice_index costs 0)
  dearest_is budget fits some within =
      let found = dearest_from (length h.code) 0 (omega arith) (first some) in
      let even = found.1.is_dearest in
      let small : found.1.cost ≤ budget = within found.0 found.1.cost found.1.is_path in
      let same : found.1.cost ≡ slice_index costs 0 = omega (arith, small, fits, even) in
      record {
        path = found.0;
        is_path = subst (Path commands h 0 found.0) same found.1.is_path;
        dearest = λ other c is.
            let few : c ≤ budget = within other c is in
            let most : capped c ≤ slice_index costs 0 = path_most commands h costs are 0 other c is in
            omega (arith, few, fits, most);
      }
