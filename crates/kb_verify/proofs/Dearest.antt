-- The pass backward.
use Rattle.std.proofs.Common.{◌≡◌, ◌<◌, ◌≤◌, ℕ, suc, ◌+◌, ◌*◌, List, length, Some, refl, sym, ap, ◌∙◌}
use Rattle.std.proofs.Common.{subst, arith, if◌then◌else◌}
use Rattle.std.specs.Prelude.{slice_get, slice_set, slice_index, nat_lt}
use Rattle.std.proofs.lemmas.Bool.{lt-ltb, le-ltb}
use Rattle.std.proofs.lemmas.List.{get_or-set_same, get_or-set_other}
use Rattle.kb_code.specs.Handler.{HandlerData}
use Rattle.kb_verify.specs.Callable.{Commands}
use Rattle.kb_code.specs.declared.instr.Instr.{Instr}
use Rattle.kb_code.specs.declared.instr.Instr.TheVariants as i
use Rattle.kb_code.specs.declared.exits.Exits.{Exits}
use Rattle.kb_code.specs.declared.exits.Exits.TheVariants.{Stop, One, Two, Around, Close}
use Rattle.kb_code.specs.Blocks.{Closes}
use Rattle.kb_code.specs.Exits.{exits_of}
use Rattle.kb_verify.specs.Paths.{cost, Steps, Path, returns, ends, goes_on, falls, jumps, repeats}
use Rattle.kb_code.proofs.BlockLemmas.{start_before, one_end}
use Rattle.kb_verify.specs.Costs.{capped, later_cost, total, dearest, HasEnd, IsDearest, AreCosts}
use Rattle.kb_verify.proofs.Costly.{times_most}
use Rattle.std.proofs.lemmas.Option.{slice_get_within}
use native.Mathlib.Decide.{ℕ_discrete}

pub later_is : (costs : List ℕ) (p q : ℕ) → p < q → later_cost costs p q ≡ slice_index costs q
later_is costs p q lt = ap (λ b. if b then slice_index costs q else 0) (lt-ltb p q lt)

later_not : (costs : List ℕ) (p q : ℕ) → q ≤ p → later_cost costs p q ≡ 0
later_not costs p q le = ap (λ b. if b then slice_index costs q else 0) (le-ltb p q le)

-- a cost that is written leaves the costs from it on, which look at later ones only
later_same : (costs : List ℕ) (p q r v : ℕ) → p ≤ q →
    later_cost (slice_set costs p v) q r ≡ later_cost costs q r
later_same costs p q r v le = elim (ℕ_discrete r p) [
  | yes e ↦ later_not (slice_set costs p v) q r (omega (arith, e, le)) ∙ sym (later_not costs q r (omega (arith, e, le)))
  | no d ↦ ap (λ n. if (nat_lt q r) then n else 0) (get_or-set_other costs p r v 0 d)
]

total_same : (costs : List ℕ) (p q past v price : ℕ) (exits : Exits) → p ≤ q →
    total (slice_set costs p v) q past price exits ≡ total costs q past price exits
total_same costs p q past v price Stop le = refl
total_same costs p q past v price (Close a) le = refl
total_same costs p q past v price (One a) le = let s = later_same costs p q a v le in cc
total_same costs p q past v price (Two a b) le =
    let s = later_same costs p q a v le in let t = later_same costs p q b v le in cc
total_same costs p q past v price (Around k a) le =
    let s = later_same costs p q a v le in let t = later_same costs p q past v le in cc

-- a `Repeat` has one `End`
end_same : (commands : Commands) (h : HandlerData) (costs : List ℕ) (p d e : ℕ) (x : Instr) → HasEnd h.code p d x → HasEnd h.code p e x →
    dearest commands h costs p d x ≡ dearest commands h costs p e x
end_same commands h costs p d e (i.Repeat n) a b = ap (λ r. dearest commands h costs p r (i.Repeat n)) (one_end h.code p d e a b)
end_same commands h costs p d e i.Return a b = refl
end_same commands h costs p d e x a b = refl

-- one more place, from the end
pub one_less : (commands : Commands) (h : HandlerData) (costs : List ℕ) (p v : ℕ) (x : Instr) → slice_get h.code p ≡ Some x →
    p < length costs → ((e : ℕ) → HasEnd h.code p e x → v ≡ dearest commands h costs p e x) →
    ((q : ℕ) → p < q → IsDearest commands h costs q) →
    (q : ℕ) → p ≤ q → IsDearest commands h (slice_set costs p v) q
one_less commands h costs p v x at lt is all q le y e at_q has =
    let same : dearest commands h (slice_set costs p v) q e y ≡ dearest commands h costs q e y =
    ap capped (total_same costs p q (e + 1) v (cost commands h y) (exits_of (suc q) y) le) in
    elim (ℕ_discrete q p) [
      | yes d ↦ let one : x ≡ y = cc (at, at_q, d) in
          let here : HasEnd h.code p e x = subst (HasEnd h.code p e) (sym one) (subst (λ r. HasEnd h.code r e y) d has) in
          ap (slice_index (slice_set costs p v)) d ∙ get_or-set_same costs p v 0 lt ∙ is e here
          ∙ ap (dearest commands h costs p e) one ∙ ap (λ r. dearest commands h costs r e y) (sym d) ∙ sym same
      | no d ↦ get_or-set_other costs p q v 0 d ∙ all q (omega (arith, d, le)) y e at_q has ∙ sym same
    ]

-- an instruction with such exits is a `Repeat`
repeat_has : (code : List Instr) (p n q e : ℕ) (x : Instr) → exits_of (suc p) x ≡ Around n q →
    Closes code p e → HasEnd code p e x
repeat_has code p n q e (i.Repeat m) is c = c
repeat_has code p n q e i.Return is c = tt
repeat_has code p n q e x is c = tt

has_none : (code : List Instr) (p e : ℕ) (x : Instr) (exits : Exits) → exits_of (suc p) x ≡ exits →
    ((n q : ℕ) → exits ≡ Around n q → ⊥) → HasEnd code p e x
has_none code p e (i.Repeat n) exits is none = absurd (none n (suc p) (sym is))
has_none code p e i.Return exits is none = tt
has_none code p e x exits is none = tt

-- the cost of a place by its exits
pub cost_at : (commands : Commands) (h : HandlerData) (costs : List ℕ) → AreCosts commands h costs → (p : ℕ) (x : Instr) (exits : Exits) →
    slice_get h.code p ≡ Some x → exits_of (suc p) x ≡ exits → ((n q : ℕ) → exits ≡ Around n q → ⊥) →
    slice_index costs p ≡ capped (total costs p (0 + 1) (cost commands h x) exits)
cost_at commands h costs are p x exits at e none =
    are.each p x 0 at (has_none h.code p 0 x exits e none) ∙ ap (λ y. capped (total costs p (0 + 1) (cost commands h x) y)) e

pub cost_around : (commands : Commands) (h : HandlerData) (costs : List ℕ) → AreCosts commands h costs → (p n q e : ℕ) (x : Instr) →
    slice_get h.code p ≡ Some x → exits_of (suc p) x ≡ Around n q → Closes h.code p e →
    slice_index costs p ≡ capped (total costs p (e + 1) (cost commands h x) (Around n q))
cost_around commands h costs are p n q e x at is c =
    are.each p x e at (repeat_has h.code p n q e x is c) ∙ ap (λ y. capped (total costs p (e + 1) (cost commands h x) y)) is

-- no path to the end of its block costs more
pub path_most : (commands : Commands) (h : HandlerData) (costs : List ℕ) → AreCosts commands h costs → (p : ℕ) (steps : Steps) (c : ℕ) →
    Path commands h p steps c → capped c ≤ slice_index costs p
path_most commands h costs are p steps c (returns x at e) =
    let l = cost_at commands h costs are p x Stop at e (λ n q s. absurd (cc)) in omega (arith, l)
path_most commands h costs are p steps c (ends {q = q} x at e) =
    let l = cost_at commands h costs are p x (Close q) at e (λ n q s. absurd (cc)) in omega (arith, l)
path_most commands h costs are p steps c (goes_on {q = q} {c = d} {steps = rest} x at e lt path) =
    let l = cost_at commands h costs are p x (One q) at e (λ n q s. absurd (cc)) in
    let on = path_most commands h costs are q rest d path in
    let is = later_is costs p q lt in
    omega (arith, l, on, is)
path_most commands h costs are p steps c (falls {q = q} {r = r} {c = d} {steps = rest} x at e lt path) =
    let l = cost_at commands h costs are p x (Two q r) at e (λ n q s. absurd (cc)) in
    let on = path_most commands h costs are q rest d path in
    let is = later_is costs p q lt in
    omega (arith, l, on, is)
path_most commands h costs are p steps c (jumps {q = q} {r = r} {c = d} {steps = rest} x at e lt path) =
    let l = cost_at commands h costs are p x (Two q r) at e (λ n q s. absurd (cc)) in
    let on = path_most commands h costs are r rest d path in
    let is = later_is costs p r lt in
    omega (arith, l, on, is)
path_most commands h costs are p steps c
    (repeats {q = q} {n = n} {e = e} {c = a} {d = d} {turn = turn} {rest = rest} x at is lt closes one others) =
    let l = cost_around commands h costs are p n q e x at is closes in
    let on = path_most commands h costs are q turn a one in
    let after = path_most commands h costs are (suc e) rest d others in
    let i = later_is costs p q lt in
    let b = start_before h.code p e closes in
    let j : later_cost costs p (e + 1) ≡ slice_index costs (suc e) =
    later_is costs p (e + 1) (omega (arith, b)) ∙ ap (slice_index costs) (let s : e + 1 ≡ suc e = omega arith in s) in
    let m = times_most n a (slice_index costs q) on in
    let k : n * (later_cost costs p q + 1) ≡ n * (slice_index costs q + 1) = ap (λ x. n * (x + 1)) i in
    omega (arith, l, m, after, j, k)

-- past the code nothing is said
pub past_end : (commands : Commands) (h : HandlerData) (costs : List ℕ) (q : ℕ) → length h.code ≤ q → IsDearest commands h costs q
past_end commands h costs q le x e at has = let l = slice_get_within h.code q x at in absurd (omega (arith, le, l))
