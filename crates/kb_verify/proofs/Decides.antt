-- Each handler is accepted or has a fault.
use Rattle.std.proofs.Common.{◌≡◌, ◌≢◌, ◌<◌, ◌≤◌, ◌⊎◌, inl, inr, ⊎_elim, ℕ, zero, suc, ◌+◌, ◌-◌, ◌*◌}
use Rattle.std.proofs.Common.{Bool, true, false, List, [], ◌∷◌, length, replicate, Option, Some, None}
use Rattle.std.proofs.Common.{Result, Ok, Err, Decides, refl, sym, ap, ◌∙◌, subst, arith}
use Rattle.std.specs.Prelude.{slice_get, slice_set, ◌==◌}
use Rattle.std.proofs.Math.Nat.{mul-le-mul_left}
use Rattle.std.specs.Cmp.Lexicographic.{pointwise}
use Rattle.std.proofs.lemmas.Bool.{cases_lt}
use Rattle.std.proofs.lemmas.Bool.Decides.{not_from_Decides}
use Rattle.std.proofs.lemmas.Option.{slice_get_within}
use Rattle.std.proofs.lemmas.Slice.Eq.{slice_eq-Decides}
use Rattle.kb_core.specs.declared.arg.Kind.{Kind}
use Rattle.kb_core.specs.Declaration.{Declaration}
use Rattle.kb_code.specs.declared.instr.Instr.{Instr}
use Rattle.kb_code.specs.declared.instr.Instr.TheVariants.{Call, End}
use Rattle.kb_code.specs.declared.exits.Exits.{Exits}
use Rattle.kb_code.specs.declared.exits.Exits.TheVariants.{Stop, One, Two, Around, Close}
use Rattle.kb_code.specs.Blocks.{block_of, Closes, IsFormed}
use Rattle.kb_code.specs.Exits.{exits_of, is_exit}
use Rattle.kb_code.specs.Handler.{HandlerData}
use Rattle.kb_code.specs.Reachable.{Follows, Reachable, first, onward}
use Rattle.kb_verify.specs.declared.fault.Defect.{Defect}
use Rattle.kb_verify.specs.declared.fault.Defect.TheVariants as defect
use Rattle.kb_verify.specs.declared.forward.Mark.{Mark}
use Rattle.kb_verify.specs.declared.forward.Mark.TheVariants as mark
use Rattle.kb_verify.specs.Callable.{Commands, declaration_at}
use Rattle.kb_verify.specs.Check.{check}
use Rattle.kb_verify.specs.Shapes.{HasShapes, IsFirstWrong}
use Rattle.kb_verify.specs.Paths.{cost, Steps, Nothing, Choice, Turns, Path, returns, ends, goes_on, falls}
use Rattle.kb_verify.specs.Paths.{jumps, repeats, IsWithinBudget, IsOverBudget}
use Rattle.kb_verify.specs.Accepted.{IsShallow, IsFirstTooDeep}
use Rattle.kb_verify.specs.Faults.{IsDecided, has_defect, is_dear, is_deep, not_code}
use Rattle.kb_code.specs.Code.{code_fault}
use Rattle.kb_code.specs.declared.fault.CodeFault.{CodeFault}
use Rattle.kb_code.specs.declared.version.Version.TheVariants.{Two}
use Rattle.kb_code.proofs.Tables.{formed}
use Rattle.kb_verify.specs.Marks.{mark_at, Meets, FlowsTo, FlowsFrom, IsMarked, ComesRound, GoesWrong}
use Rattle.kb_code.specs.Same.{same_kind}
use Rattle.kb_verify.proofs.Calls.{IsShallowBelow, shallow_called, shallow_passed, none_undeclared}
use Rattle.kb_verify.proofs.Calls.{found_callee}
use Rattle.kb_code.proofs.BlockLemmas.{one_end}
use Rattle.kb_code.proofs.Booleans.{or_left, or_right}
use Rattle.kb_verify.proofs.Arrivals.{follows_at, block_at}
use Rattle.kb_verify.proofs.Edges.{equal, at_place, reach_within}
use Rattle.kb_verify.proofs.Passes.{blank_marked, skipped, looked_on, differs_first, round_first, fails_first, all_looked}
use Rattle.kb_verify.proofs.Passes.{reach_marked, flow_size}
use Rattle.kb_code.proofs.SameLemmas.{kind_is, kind_same}
use native.Mathlib.Decide.{ℕ_discrete}

-- ---- the marks after one more shape

-- two kinds are equal or not
kind_decides : (a b : Kind) → Decides (same_kind a b) (a ≡ b)
kind_decides a b = (kind_is a b, λ e. ap (same_kind a) (sym e) ∙ kind_same a)

-- two lists of kinds are equal or not
same_kinds : (a b : List Kind) → (a ≡ b) ⊎ (a ≢ b)
same_kinds a b = by (pointwise same_kind a b) refl
  where
    decides : Decides (pointwise same_kind a b) (a ≡ b)
    decides = slice_eq-Decides kind_decides a b (pointwise same_kind a b) refl

    by : (t : Bool) → pointwise same_kind a b ≡ t → (a ≡ b) ⊎ (a ≢ b)
    by true e = inl (decides.0 e)
    by false e = inr (not_from_Decides (pointwise same_kind a b) decides e)

-- the mark after one more shape
meets : (m : Mark) (after : List Kind) → (n : Mark) × Meets m after n
meets mark.Unreached after = (mark.Has after, refl)
meets (mark.Has before) after = elim (same_kinds before after) [
  | inl e ↦ (mark.Has before, inl (e, refl))
  | inr ne ↦ (mark.Differs, inr (ne, refl))
]
meets mark.Differs after = (mark.Differs, refl)

-- the marks after a shape reached one place
flows_to : (ms : List Mark) (q : ℕ) (after : List Kind) → (ns : List Mark) × FlowsTo ms q after ns
flows_to ms q after = let m = meets (mark_at ms q) after in (slice_set ms q m.0, (m.0, m.1, refl))

-- the marks after a shape was propagated to all exits
flows_from : (exits : Exits) (ms : List Mark) (after : List Kind) →
    (ns : List Mark) × FlowsFrom exits ms after ns × (length ns ≡ length ms)
flows_from Stop ms after = (ms, refl, refl)
flows_from (One q) ms after = let f = flows_to ms q after in (f.0, f.1, flow_size ms f.0 q after f.1)
flows_from (Around n q) ms after = let f = flows_to ms q after in (f.0, f.1, flow_size ms f.0 q after f.1)
flows_from (Close q) ms after = let f = flows_to ms q after in (f.0, f.1, flow_size ms f.0 q after f.1)
flows_from (Two q r) ms after =
    let f = flows_to ms q after in
    let g = flows_to f.0 r after in
    (g.0, (f.0, f.1, g.1), flow_size f.0 g.0 r after g.1 ∙ flow_size ms f.0 q after f.1)

-- a place whose mark holds a shape, or two, was reached
marked_has : (m : Mark) (ks : List Kind) → m ≡ mark.Has ks → m ≢ mark.Unreached
marked_has m ks e f = let g : mark.Has ks ≡ mark.Unreached = sym e ∙ f in cc

marked_differs : (m : Mark) → m ≡ mark.Differs → m ≢ mark.Unreached
marked_differs m e f = let g : mark.Differs ≡ mark.Unreached = sym e ∙ f in cc

-- an instruction is a call or not
is_call : (i : Instr) → ((n : ℕ) × (i ≡ Call n)) ⊎ ((n : ℕ) → i ≢ Call n)
is_call (Call n) = inl (n, refl)
is_call i = inr (λ n e. cc)

module _ (commands : Commands) (h : HandlerData) where
  -- ---- the shapes

  -- some place is the first with a defect
  abbrev HasWrong : Type 0
  HasWrong = (place : ℕ) × (wrong : Defect) × IsFirstWrong commands h place wrong

  -- the marks after all places below i were checked, with no defect
  abbrev AreRight : ℕ → Type 0
  AreRight i = (ms : List Mark) × IsMarked commands h i ms

  -- the instruction at a place
  instr_at : (p : ℕ) → p < length h.code → (i : Instr) × (slice_get h.code p ≡ Some i)
  instr_at p lt = (_, at_place h.code h.code p refl lt)

  -- the step for a place with one shape
  checked : (i : ℕ) (ms : List Mark) (ks : List Kind) (instr : Instr) → IsMarked commands h i ms →
      mark_at ms i ≡ mark.Has ks → slice_get h.code i ≡ Some instr → ComesRound h.code ms i ks →
      (r : Result (List Kind) Defect) → check commands h i ks instr ≡ r → AreRight (i + 1) ⊎ HasWrong
  checked i ms ks instr marked has at round (Ok after) right =
      let f = flows_from (exits_of (suc i) instr) ms after in
      inl (f.0, looked_on commands h i ms f.0 ks after instr marked has at round right (f.2 ∙ marked.size) f.1)
  checked i ms ks instr marked has at round (Err wrong) fault =
      inr (i, wrong, fails_first commands h i ms ks instr wrong marked has at round fault)

  -- an `End` has the shape of the place after its `Repeat`, or another
  rounds : (ms : List Mark) (i : ℕ) (ks : List Kind) (instr : Instr) → slice_get h.code i ≡ Some instr →
      ComesRound h.code ms i ks ⊎ GoesWrong h.code ms i ks
  rounds ms i ks End at = by (block_of h.code i) refl
    where
      first_by : (q : ℕ) → block_of h.code i ≡ Some q → (m : Mark) → mark_at ms (suc q) ≡ m →
          ComesRound h.code ms i ks ⊎ GoesWrong h.code ms i ks
      first_by q is (mark.Has ls) m_is = elim (same_kinds ls ks) [
        | inl e ↦ inl (λ r js c has.
            let s : Some q ≡ Some r = sym is ∙ c.block in let t : r ≡ q = cc in
            let u : mark.Has js ≡ mark.Has ls = sym has ∙ ap (λ n. mark_at ms (suc n)) t ∙ m_is in
            let v : js ≡ ls = cc in v ∙ e)
        | inr ne ↦ inr (record { start = q; shape = ls; closes = record { at = at; block = is }; has = m_is; other = ne })
      ]
      first_by q is mark.Unreached m_is = inl (λ r js c has.
          let s : Some q ≡ Some r = sym is ∙ c.block in let t : r ≡ q = cc in
          let u : mark.Has js ≡ mark.Unreached = sym has ∙ ap (λ n. mark_at ms (suc n)) t ∙ m_is in absurd (cc))
      first_by q is mark.Differs m_is = inl (λ r js c has.
          let s : Some q ≡ Some r = sym is ∙ c.block in let t : r ≡ q = cc in
          let u : mark.Has js ≡ mark.Differs = sym has ∙ ap (λ n. mark_at ms (suc n)) t ∙ m_is in absurd (cc))

      by : (o : Option ℕ) → block_of h.code i ≡ o → ComesRound h.code ms i ks ⊎ GoesWrong h.code ms i ks
      by (Some q) is = first_by q is (mark_at ms (suc q)) refl
      by None is = inl (λ r js c has. let s : Some r ≡ None = sym c.block ∙ is in absurd (cc))
  rounds ms i ks x at = inl (λ q ls c has. let s : Some End ≡ Some x = sym c.at ∙ at in absurd (cc))

  -- the step for a place
  looks : (i : ℕ) (ms : List Mark) → i < length h.code → IsMarked commands h i ms → (m : Mark) →
      mark_at ms i ≡ m → AreRight (i + 1) ⊎ HasWrong
  looks i ms lt marked mark.Unreached e = inl (ms, skipped commands h i ms marked e)
  looks i ms lt marked (mark.Has ks) e =
      let at = instr_at i lt in
      elim (rounds ms i ks at.0 at.1) [
        | inl round ↦ checked i ms ks at.0 marked e at.1 round (check commands h i ks at.0) refl
        | inr wrong ↦ inr (i, defect.ShapesDiffer, round_first commands h i ms ks marked e wrong)
      ]
  looks i ms lt marked mark.Differs e = inr (i, defect.ShapesDiffer, differs_first commands h i ms marked e)

  -- from place i on, with n places left
  shapes_from : (n i : ℕ) (ms : List Mark) → i + n ≡ length h.code → IsMarked commands h i ms →
      AreRight (length h.code) ⊎ HasWrong
  shapes_from zero i ms e marked =
      let end : i ≡ length h.code = omega (arith, e) in
      inl (ms, subst (λ j. IsMarked commands h j ms) end marked)
  shapes_from (suc n) i ms e marked =
      elim (looks i ms (omega (arith, e)) marked (mark_at ms i) refl) [
        | inl on ↦ shapes_from n (i + 1) on.0 (omega (arith, e)) on.1
        | inr wrong ↦ inr wrong
      ]

  -- all reachable places have shapes, or there is a first defect
  shapes_or_wrong : 0 < length h.code → AreRight (length h.code) ⊎ HasWrong
  shapes_or_wrong some =
      let n = length h.code - 1 in
      let size : length h.code ≡ n + 1 = omega (arith, some) in
      let ms = mark.Has [] ∷ replicate n mark.Unreached in
      shapes_from (length h.code) 0 ms (omega arith) (blank_marked commands h n ms refl size)

  -- ---- the budget

  -- no path from a place costs more than a bound
  abbrev AtMost : ℕ → ℕ → Type 0
  AtMost p most = (path : Steps) (c : ℕ) → Path commands h p path c → c ≤ most

  -- a greater bound holds too
  more : (p few most : ℕ) → few ≤ most → AtMost p few → AtMost p most
  more p few most le bound path c is = let small = bound path c is in omega (arith, small, le)

  -- the rest of a path from an exit, by its cost
  abbrev On : ℕ → (ℕ → Type 0) → Type 0
  On q P = (steps : Steps) × (d : ℕ) × Path commands h q steps d × P d

  -- a block of n iterations, and the path after it
  record Round (p n q price c : ℕ) : Type 0 where
    pub end : ℕ
    pub closes : Closes h.code p end
    pub inner : ℕ
    pub past : ℕ
    pub turn : Steps
    pub rest : Steps
    pub turn_is : Path commands h q turn inner
    pub rest_is : Path commands h (suc end) rest past
    pub is : c ≡ price + (n * (inner + 1) + past)

  -- how a path from a place goes on, by its exits
  abbrev Goes : ℕ → ℕ → ℕ → Exits → Type 0
  Goes p price c Stop = c ≡ price
  Goes p price c (Close q) = c ≡ 0
  Goes p price c (One q) = On q (λ d. c ≡ price + d)
  Goes p price c (Two a b) = On a (λ d. c ≡ price + d) ⊎ On b (λ d. c ≡ price + d)
  Goes p price c (Around n q) = Round p n q price c

  moved : (p c : ℕ) (j x : Instr) (exits : Exits) → slice_get h.code p ≡ Some j → slice_get h.code p ≡ Some x →
      exits_of (suc p) j ≡ exits → Goes p (cost commands h j) c exits →
      Goes p (cost commands h x) c (exits_of (suc p) x)
  moved p c j x exits is at e goes =
      let same : j ≡ x = cc (is, at) in
      subst (λ y. Goes p (cost commands h y) c (exits_of (suc p) y)) same
      (subst (Goes p (cost commands h j) c) (sym e) goes)

  goes_by : (p c : ℕ) (x : Instr) (path : Steps) → slice_get h.code p ≡ Some x → Path commands h p path c →
      Goes p (cost commands h x) c (exits_of (suc p) x)
  goes_by p c x path at (returns j is e) = moved p c j x Stop is at e refl
  goes_by p c x path at (ends {q = q} j is e) = moved p c j x (Close q) is at e refl
  goes_by p c x path at (goes_on {q = q} {c = d} {steps = steps} j is e lt rest) =
      moved p c j x (One q) is at e (steps, d, rest, refl)
  goes_by p c x path at (falls {q = q} {r = r} {c = d} {steps = steps} j is e lt rest) =
      moved p c j x (Two q r) is at e (inl (steps, d, rest, refl))
  goes_by p c x path at (jumps {q = q} {r = r} {c = d} {steps = steps} j is e lt rest) =
      moved p c j x (Two q r) is at e (inr (steps, d, rest, refl))
  goes_by p c x path at (repeats {q = q} {n = n} {e = end} {c = a} {d = d} {turn = turn} {rest = rest} j is e lt closes inner past) =
      moved p c j x (Around n q) is at e (record {
        end = end;
        closes = closes;
        inner = a;
        past = d;
        turn = turn;
        rest = rest;
        turn_is = inner;
        rest_is = past;
        is = refl;
      })

  -- a most expensive path from a place
  record IsDearestFrom (p : ℕ) : Type 0 where
    pub path : Steps
    pub spent : ℕ
    pub is_path : Path commands h p path spent
    pub dearest : AtMost p spent

  module _ (is_formed : IsFormed h.code) (has : HasShapes commands h) where
    leads : (p q : ℕ) (x : Instr) (exits : Exits) → Reachable h.code p → slice_get h.code p ≡ Some x →
        exits_of (suc p) x ≡ exits → is_exit exits q ≡ true → Follows h.code p q
    leads p q x exits r at e is =
        follows_at commands h is_formed has.0 has.1 p q x r at (ap (λ y. is_exit y q) e ∙ is)

    -- the step for a place, from the paths of all later reachable places
    dearest_by : (p : ℕ) (x : Instr) → Reachable h.code p → slice_get h.code p ≡ Some x →
        ((q : ℕ) → p < q → Reachable h.code q → IsDearestFrom q) → (exits : Exits) →
        exits_of (suc p) x ≡ exits → IsDearestFrom p
    dearest_by p x reach at later Stop e = record {
      path = Nothing;
      spent = cost commands h x;
      is_path = returns x at e;
      dearest = λ path c is.
          let goes : Goes p (cost commands h x) c Stop = subst (Goes p (cost commands h x) c) e (goes_by p c x path at is) in
          omega (arith, goes);
    }
    dearest_by p x reach at later (Close q) e = record {
      path = Nothing;
      spent = 0;
      is_path = ends x at e;
      dearest = λ path c is.
          let goes : Goes p (cost commands h x) c (Close q) = subst (Goes p (cost commands h x) c) e (goes_by p c x path at is) in
          omega (arith, goes);
    }
    dearest_by p x reach at later (One q) e =
        let f = leads p q x (One q) reach at e (equal q) in
        let on = later q f.later (onward reach f) in
        record {
          path = on.path;
          spent = cost commands h x + on.spent;
          is_path = goes_on x at e f.later on.is_path;
          dearest = λ path c is.
              let goes : Goes p (cost commands h x) c (One q) = subst (Goes p (cost commands h x) c) e (goes_by p c x path at is) in
              let most = on.dearest goes.0 goes.1 goes.2 in
              let sum = goes.3 in
              omega (arith, most, sum);
        }
    dearest_by p x reach at later (Two a b) e =
        let f = leads p a x (Two a b) reach at e (or_left (a == a) (a == b) (equal a)) in
        let g = leads p b x (Two a b) reach at e (or_right (b == a) (b == b) (equal b)) in
        let on_a = later a f.later (onward reach f) in
        let on_b = later b g.later (onward reach g) in
        let both : (most : ℕ) → on_a.spent ≤ most → on_b.spent ≤ most → AtMost p (cost commands h x + most) =
        λ most le_a le_b path c is.
        ⊎_elim
        (λ o. let few = on_a.dearest o.0 o.1 o.2 in let sum = o.3 in omega (arith, few, sum, le_a))
        (λ o. let few = on_b.dearest o.0 o.1 o.2 in let sum = o.3 in omega (arith, few, sum, le_b))
        (let goes : Goes p (cost commands h x) c (Two a b) = subst (Goes p (cost commands h x) c) e (goes_by p c x path at is) in goes) in
        elim (cases_lt on_a.spent on_b.spent) [
          | inl lt ↦ record {
            path = Choice true on_b.path;
            spent = cost commands h x + on_b.spent;
            is_path = jumps x at e g.later on_b.is_path;
            dearest = both on_b.spent (omega (arith, lt)) (omega arith);
          }
          | inr le ↦ record {
            path = Choice false on_a.path;
            spent = cost commands h x + on_a.spent;
            is_path = falls x at e f.later on_a.is_path;
            dearest = both on_a.spent (omega arith) le;
          }
        ]
    dearest_by p x reach at later (Around n q) e =
        let b = block_at commands h is_formed has.0 has.1 p n q x reach at e in
        let end = b.end in
        let after = b.after in
        let next : end + 1 ≡ suc end = omega arith in
        let inner = later q b.later b.inner in
        let rest = later (suc end) (omega (arith, after)) (subst (Reachable h.code) next b.past) in
        record {
          path = Turns inner.path rest.path;
          spent = cost commands h x + (n * (inner.spent + 1) + rest.spent);
          is_path = repeats x at e b.later b.closes inner.is_path rest.is_path;
          dearest = λ path c is.
              let goes : Goes p (cost commands h x) c (Around n q) = subst (Goes p (cost commands h x) c) e (goes_by p c x path at is) in
              let same : goes.end ≡ end = one_end h.code p goes.end end goes.closes b.closes in
              let turn = inner.dearest goes.turn goes.inner goes.turn_is in
              let more = rest.dearest goes.rest goes.past (subst (λ r. Path commands h (suc r) goes.rest goes.past) same goes.rest_is) in
              let times : n * (goes.inner + 1) ≤ n * (inner.spent + 1) = mul-le-mul_left n (omega (arith, turn)) in
              let sum = goes.is in
              omega (arith, times, more, sum);
        }

    -- each reachable place has a most expensive path; n bounds the number of places left
    dearest_from : (n p : ℕ) → length h.code ≤ p + n → Reachable h.code p → IsDearestFrom p
    dearest_from zero p le reach = absurd (omega (arith, le, reach_within h.code p reach))
    dearest_from (suc n) p le reach =
        let at = instr_at p (reach_within h.code p reach) in
        dearest_by p at.0 reach at.1 (λ q lt. dearest_from n q (omega (arith, le, lt)))
        (exits_of (suc p) at.0) refl

  -- no path is over the budget, or some path is
  within_or_over : IsFormed h.code → 0 < length h.code → HasShapes commands h →
      IsWithinBudget commands h ⊎ ((path : Steps) × IsOverBudget commands h path)
  within_or_over is_formed some has =
      let found = dearest_from is_formed has (length h.code) 0 (omega arith) (first some) in
      elim (cases_lt h.signature.budget found.spent) [
        | inl over ↦ inr (found.path, record { cost = found.spent; is_path = found.is_path; over = over })
        | inr le ↦ inl (λ path c is. let most = found.dearest path c is in omega (arith, most, le))
      ]

  -- ---- the depth

  -- some place is the first with a call that is too deep
  abbrev HasTooDeep : Type 0
  HasTooDeep = (place : ℕ) × IsFirstTooDeep commands h place

  -- the step for a call at a reachable place
  called : (p n : ℕ) → HasShapes commands h → IsShallowBelow commands h p → Reachable h.code p →
      slice_get h.code p ≡ Some (Call n) → (d : Option Declaration) → declaration_at commands h n ≡ d →
      IsShallowBelow commands h (p + 1) ⊎ HasTooDeep
  called p n has below reach at None none = absurd (none_undeclared commands h has p n reach at none)
  called p n has below reach at (Some d) is =
      let callee = found_callee commands h p n d reach at is in
      elim (cases_lt d.depth h.signature.depth) [
        | inl lt ↦ inl (shallow_called commands h p n d below callee lt)
        | inr le ↦ inr (
          p,
          record {
            index = n;
            declaration = d;
            callee = callee;
            deep = omega (arith, le);
            first = below;
          },
        )
      ]

  -- the step for a reachable place
  reached : (p : ℕ) (i : Instr) → HasShapes commands h → IsShallowBelow commands h p → Reachable h.code p →
      slice_get h.code p ≡ Some i → IsShallowBelow commands h (p + 1) ⊎ HasTooDeep
  reached p i has below reach at = elim (is_call i) [
    | inl call ↦ called p call.0 has below reach (at ∙ ap Some call.1) (declaration_at commands h call.0) refl
    | inr none ↦ inl (shallow_passed commands h p below (λ n calls.
        let same : i ≡ Call n = cc (at, calls.at) in none n same))
  ]

  -- the step for a place; its mark says whether it is reachable
  deepens : (p : ℕ) (ms : List Mark) → p < length h.code → HasShapes commands h →
      IsMarked commands h (length h.code) ms → IsShallowBelow commands h p → (m : Mark) → mark_at ms p ≡ m →
      IsShallowBelow commands h (p + 1) ⊎ HasTooDeep
  deepens p ms lt has marked below mark.Unreached e =
      inl (shallow_passed commands h p below (λ n calls.
      reach_marked commands h (length h.code) ms marked p (omega (arith, lt)) calls.reached e))
  deepens p ms lt has marked below (mark.Has ks) e =
      let at = instr_at p lt in
      reached p at.0 has below (marked.reached p (marked_has (mark_at ms p) ks e)) at.1
  deepens p ms lt has marked below mark.Differs e =
      let at = instr_at p lt in
      reached p at.0 has below (marked.reached p (marked_differs (mark_at ms p) e)) at.1

  -- from place p on, with n places left
  shallow_from : (n p : ℕ) (ms : List Mark) → p + n ≡ length h.code → HasShapes commands h →
      IsMarked commands h (length h.code) ms → IsShallowBelow commands h p → IsShallow commands h ⊎ HasTooDeep
  shallow_from zero p ms e has marked below =
      inl (λ q m d is. below q m d (omega (arith, e, slice_get_within h.code q (Call m) is.calls.at)) is)
  shallow_from (suc n) p ms e has marked below =
      elim (deepens p ms (omega (arith, e)) has marked below (mark_at ms p) refl) [
        | inl on ↦ shallow_from n (p + 1) ms (omega (arith, e)) has marked on
        | inr deep ↦ inr deep
      ]

  -- no call is too deep, or there is a first one
  shallow_or_deep : (ms : List Mark) → IsMarked commands h (length h.code) ms → HasShapes commands h →
      IsShallow commands h ⊎ HasTooDeep
  shallow_or_deep ms marked has =
      shallow_from (length h.code) 0 ms (omega arith) has marked (λ q m d lt. absurd (omega (arith, lt)))

  -- ---- all together

  -- the verdict, once all reachable places have shapes
  decided_budget : IsFormed h.code → 0 < length h.code → HasShapes commands h →
      IsShallow commands h ⊎ HasTooDeep →
      IsWithinBudget commands h ⊎ ((path : Steps) × IsOverBudget commands h path) → IsDecided commands h
  decided_budget is_formed some has depth (inr over) = inr (is_dear over.0 is_formed has over.1)
  decided_budget is_formed some has (inr deep_at) (inl within) = inr (is_deep deep_at.0 is_formed has within deep_at.1)
  decided_budget is_formed some has (inl shallow) (inl within) =
      inl (record { formed = is_formed; some_code = some; shapes = has; within_budget = within; within_depth = shallow })

  -- the verdict on a handler whose reachable places have shapes
  decided_formed : 0 < length h.code → AreRight (length h.code) → (o : Option CodeFault) →
      code_fault Two h.code ≡ o → IsDecided commands h
  decided_formed some right (Some fault) is =
      inr (not_code fault some (all_looked commands h right.0 right.1) is)
  decided_formed some right None is =
      let has = all_looked commands h right.0 right.1 in
      let is_formed = formed Two h.code is in
      decided_budget is_formed some has (shallow_or_deep right.0 right.1 has) (within_or_over is_formed some has)

  -- the verdict on a handler with code
  decided_shapes : 0 < length h.code → AreRight (length h.code) ⊎ HasWrong → IsDecided commands h
  decided_shapes some (inr wrong_at) = inr (has_defect wrong_at.1 wrong_at.0 (inr wrong_at.2))
  decided_shapes some (inl right) = decided_formed some right (code_fault Two h.code) refl

  -- a handler is accepted, or it has a fault
  pub accepted_or_faulty : IsDecided commands h
  accepted_or_faulty = elim (ℕ_discrete (length h.code) 0) [
    | yes none ↦ inr (has_defect defect.FallsOff 0 (inl (none, refl, refl)))
    | no some ↦
        let size : 0 < length h.code = omega (arith, some) in
        decided_shapes size (shapes_or_wrong size)
  ]
