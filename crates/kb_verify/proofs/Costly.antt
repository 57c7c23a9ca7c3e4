-- Costs up to a limit.
use Rattle.std.proofs.Common.{◌≡◌, ◌<◌, ◌≤◌, ℕ, ◌+◌, ◌*◌, ◌^◌, Bool, true, false, refl, ap, ◌∙◌, arith}
use Rattle.std.specs.Prelude.{nat_lt}
use Rattle.std.proofs.lemmas.Bool.{ltb-true, ltb-false}
use Rattle.std.proofs.Math.Nat.{mul-le-mul_left, mul-le-mul_right, mul_comm, zero-mul}
use Rattle.kb_verify.specs.Costs.{capped}

at_least : (k n : ℕ) → 0 < k → n ≤ k * n
at_least k n lt = let l : 1 * n ≤ k * n = mul-le-mul_right n (omega (arith, lt)) in omega (arith, l)

none : (k n : ℕ) → k ≡ 0 → k * n ≡ 0
none k n e = ap (λ i. i * n) e ∙ zero-mul n

-- more turns of a turn that costs more
pub times_most : (k c r : ℕ) → capped c ≤ r → capped (k * (c + 1)) ≤ capped (k * (r + 1))
times_most k c r le = go (nat_lt r c) refl
  where
    go : (b : Bool) → nat_lt r c ≡ b → capped (k * (c + 1)) ≤ capped (k * (r + 1))
    go false e = let l = mul-le-mul_left k (let m : c ≤ r = ltb-false r c e in let n : c + 1 ≤ r + 1 = omega (arith, m) in n) in omega (arith, l)
    go true e = past (nat_lt 0 k) refl (ltb-true r c e)
      where
        past : (b : Bool) → nat_lt 0 k ≡ b → r < c → capped (k * (c + 1)) ≤ capped (k * (r + 1))
        past true e lt = let l = at_least k (r + 1) (ltb-true 0 k e) in omega (arith, l, le, lt)
        past false e lt =
            let z : k ≡ 0 = let l = ltb-false 0 k e in omega (arith, l) in
            let a = none k (c + 1) z in let b = none k (r + 1) z in omega (arith, a, b)

-- turns of a turn that costs just as much
pub times_even : (k c r : ℕ) → 0 < k → capped c ≡ r → capped (k * (c + 1)) ≡ capped (k * (r + 1))
times_even k c r lt e = go (nat_lt r c) refl
  where
    go : (b : Bool) → nat_lt r c ≡ b → capped (k * (c + 1)) ≡ capped (k * (r + 1))
    go false f = let m : c ≡ r = (let l = ltb-false r c f in omega (arith, l, e)) in ap (λ i. capped (k * (i + 1))) m
    go true f =
        let l = ltb-true r c f in
        let a = at_least k (r + 1) lt in let b = at_least k (c + 1) lt in
        omega (arith, a, b, l, e)

-- a product of what was cut at the limit
pub times_capped : (n k : ℕ) → capped (capped n * k) ≡ capped (k * n)
times_capped n k = go (nat_lt n (2 ^ 64)) refl
  where
    go : (b : Bool) → nat_lt n (2 ^ 64) ≡ b → capped (capped n * k) ≡ capped (k * n)
    go true e =
        let l = ltb-true n (2 ^ 64) e in
        let m : capped n ≡ n = omega (arith, l) in
        ap (λ i. capped (i * k)) m ∙ ap capped (mul_comm n k)
    go false e = past (nat_lt 0 k) refl (ltb-false n (2 ^ 64) e)
      where
        past : (b : Bool) → nat_lt 0 k ≡ b → 2 ^ 64 ≤ n → capped (capped n * k) ≡ capped (k * n)
        past true f le =
            let a = at_least k n (ltb-true 0 k f) in
            let b = at_least k (capped n) (ltb-true 0 k f) in
            let s = mul_comm k (capped n) in
            omega (arith, a, b, s, le)
        past false f le =
            let z : k ≡ 0 = (let l = ltb-false 0 k f in omega (arith, l)) in
            let a = none k n z in
            let b = none k (capped n) z in
            let s = mul_comm k (capped n) in
            omega (arith, a, b, s)
