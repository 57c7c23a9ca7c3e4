-- One byte more, and how far line and column can come.
use Rattle.std.proofs.Common.{◌≡◌, ◌<◌, ◌≤◌, ◌+◌, ◌-◌, ◌^◌, ℕ, zero, suc, List, [], ◌∷◌, length, take, refl, arith}
use Rattle.std.proofs.Common.{Bool, true, false, cond}
use Rattle.std.specs.Prelude.{◌==◌, slice_index}
use Rattle.std.specs.List.{fold}
use Rattle.kb_places.specs.declared.position.Head.{Head}
use Rattle.kb_places.specs.Position.{begin, below, beside, behind, behind_feed, head_at, is_inside}
use Rattle.kb_places.proofs.LineLemmas.{next_line}

walk : (h : Head) (xs : List ℕ) (n : ℕ) → n < length xs
    → fold behind h (take (suc n) xs) ≡ behind (fold behind h (take n xs)) (slice_index xs n)
walk h [] n p = absurd (omega (arith, p))
walk h (x ∷ xs) zero p = refl
walk h (x ∷ xs) (suc n) p = walk (behind h x) xs n (omega (arith, p))

pub head_next : (text : List ℕ) (n : ℕ) → n < length text
    → head_at text (n + 1) ≡ behind (head_at text n) (slice_index text n)
unfolding head_at
head_next text n p = let e : n + 1 ≡ suc n = omega arith in rw e (walk begin text n p)

-- neither the line nor the column is higher
abbrev IsWithin : Head → ℕ → Type 0
IsWithin h n = (h.position.line ≤ n) × (h.position.column ≤ n)

chosen : (t : Bool) (g h : Head) (n : ℕ) → IsWithin g n → IsWithin h n → IsWithin (cond t g h) n
chosen true g h n p q = p
chosen false g h n p q = q

one : (h : Head) (b n : ℕ) → 1 ≤ n → IsWithin h n → IsWithin (behind h b) (suc n)
one h b n some p =
    let same : IsWithin h (suc n) = (omega (arith, p.0), omega (arith, p.1)) in
    let deeper : (t : Bool) → IsWithin (below h t) (suc n) = λ t. (omega (arith, p.0), omega arith) in
    let further : IsWithin (beside h) (suc n) = (omega (arith, p.0), omega (arith, p.1)) in
    chosen (b == 10) (behind_feed h)
    (cond (b == 13) (below h true) (cond (is_inside b) h (beside h))) (suc n)
    (chosen h.behind_return (record { position = h.position; behind_return = false }) (below h false) (suc n)
    same (deeper false))
    (chosen (b == 13) (below h true) (cond (is_inside b) h (beside h)) (suc n) (deeper true)
    (chosen (is_inside b) h (beside h) (suc n) same further))

many : (h : Head) (xs : List ℕ) (n : ℕ) → 1 ≤ n → IsWithin h n → IsWithin (fold behind h xs) (n + length xs)
many h [] n some p = (omega (arith, p.0), omega (arith, p.1))
many h (x ∷ xs) n some p =
    let q = many (behind h x) xs (suc n) (omega arith) (one h x n some p) in
    (omega (arith, q.0), omega (arith, q.1))

take_short : (n : ℕ) (xs : List ℕ) → length (take n xs) ≤ n
take_short zero xs = omega arith
take_short (suc n) [] = omega arith
take_short (suc n) (x ∷ xs) = omega (arith, take_short n xs)

within : (text : List ℕ) (n : ℕ) → IsWithin (head_at text n) (n + 1)
unfolding head_at
within text n =
    let q = many begin (take n text) 1 (omega arith) (omega arith, omega arith) in
    let s = take_short n text in
    (omega (arith, q.0, s), omega (arith, q.1, s))

pub line_fits : (text : List ℕ) (n : ℕ) → n < 2 ^ 63 - 1 → (head_at text n).position.line < 2 ^ 63
line_fits text n p = let q = within text n in omega (arith, q.0, p)

pub column_fits : (text : List ℕ) (n : ℕ) → n < 2 ^ 63 - 1 → (head_at text n).position.column < 2 ^ 63
column_fits text n p = let q = within text n in omega (arith, q.1, p)

pub ruleset moving = (head_next, line_fits, column_fits, next_line)
