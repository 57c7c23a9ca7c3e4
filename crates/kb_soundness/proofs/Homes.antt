-- What is left to pay behind a turn: the further turns of each block that is open, and what comes past it.
use Rattle.std.proofs.Common.{◌≡◌, ◌≤◌, ℕ, suc, ◌+◌, ◌*◌, Bool, true, false, List, [], ◌∷◌, refl, arith}
use Rattle.std.proofs.Common.{Some, subst, sym, ap, length}
use Rattle.std.specs.Prelude.{slice_get, nat_lt}
use Rattle.std.proofs.lemmas.Bool.{ltb-true, ltb-false}
use Rattle.std.proofs.Math.Nat.{mul-le-mul_left}
use Rattle.kb_code.specs.Handler.{HandlerData}
use Rattle.kb_verify.specs.Callable.{Commands}
use Rattle.kb_code.specs.declared.instr.Instr.{Instr}
use Rattle.kb_code.specs.declared.instr.Instr.TheVariants as i
use Rattle.kb_code.specs.Blocks.{Closes}
use Rattle.kb_code.specs.Reachable.{Reachable}
use Rattle.kb_verify.specs.Paths.{Steps, Turns, Path, repeats}

-- For the blocks around a place and the turns that are left of each, the innermost first: its `End` costs 1, each
-- further turn a path and 1, and then comes a path past it, to the `End` of the next block.
pub data Home (commands : Commands) (h : HandlerData) : List ℕ → List ℕ → ℕ → Type 0 where
  out : Home commands h [] [] 0
  within : {q e k c d m : ℕ} {around left : List ℕ} {turn rest : Steps} → Reachable h.code (suc q) →
      Closes h.code q e → Path commands h (suc q) turn c → Path commands h (suc e) rest d → Home commands h around left m →
      Home commands h (q ∷ around) (suc k ∷ left) (1 + (k * (c + 1) + (d + m)))

-- the way home where one more turn is left, of which a path from the place after the `Repeat` is the first
abbrev pub More : Commands → HandlerData → ℕ → List ℕ → ℕ → List ℕ → ℕ → Type 0
More commands h q around k left most =
    (n : ℕ) × Home commands h (q ∷ around) (suc (suc k) ∷ left) n × (most + 1 ≤ n)

pub one_more : (commands : Commands) (h : HandlerData) (q k m c : ℕ) (around left : List ℕ) (steps : Steps) →
    Path commands h (suc q) steps c → Home commands h (q ∷ around) (suc k ∷ left) m → More commands h q around k left (c + m)
one_more commands h q k m c around left steps path (within {c = b} {d = d} {m = n} r closes turn rest home) =
    by (nat_lt b c) refl
  where
    by : (t : Bool) → nat_lt b c ≡ t → More commands h q around k left (c + (1 + (k * (b + 1) + (d + n))))
    by true e =
        let lt = ltb-true b c e in
        let le : k * (b + 1) ≤ k * (c + 1) = mul-le-mul_left k (omega (arith, lt)) in
        (1 + (suc k * (c + 1) + (d + n)), within r closes path rest home, omega (arith, le))
    by false e =
        let le : c ≤ b = ltb-false b c e in
        (1 + (suc k * (b + 1) + (d + n)), within r closes turn rest home, omega (arith, le))

-- a `Repeat` costs what an `End` does with one more turn left
pub unrolled : (commands : Commands) (h : HandlerData) (p n m : ℕ) (around left : List ℕ) → slice_get h.code p ≡ Some (i.Repeat n) →
    Home commands h (p ∷ around) (suc n ∷ left) m →
    (steps : Steps) × (c : ℕ) × (b : ℕ) × Path commands h p steps c × Home commands h around left b × (c + b ≡ m)
unrolled commands h p n m around left at (within {c = c} {d = d} {m = b} {turn = turn} {rest = rest} r closes inner past home) = (
  Turns turn rest,
  1 + (n * (c + 1) + d),
  b,
  repeats (i.Repeat n) at refl (omega arith) closes inner past,
  home,
  omega arith,
)

-- there is a way home
pub some_home : {commands : Commands} {h : HandlerData} {m : ℕ} {a b left : List ℕ} → a ≡ b → Home commands h b left m →
    (n : ℕ) × Home commands h a left n
some_home {commands} {h} {m} {a} {b} {left} e home = (m, subst (λ r. Home commands h r left m) (sym e) home)

-- each block that is open has its iterations
pub home_length : {commands : Commands} {h : HandlerData} {m : ℕ} {around left : List ℕ} →
    Home commands h around left m → length left ≡ length around
home_length out = refl
home_length (within r closes turn rest home) = ap suc (home_length home)

-- outside of all blocks nothing is left to pay on the way home
pub home_free : {commands : Commands} {h : HandlerData} {m : ℕ} {left : List ℕ} → Home commands h [] left m →
    m ≡ 0
home_free out = refl
