-- The numbers of texts: that they fit their types, and that those of short texts determine them.
use Rattle.std.proofs.Common.{◌≡◌, ℕ, zero, suc, ◌+◌, ◌-◌, ◌*◌, ◌^◌, ◌<◌, ◌≤◌, List, [], ◌∷◌, ◌++◌, length, get_or, ◌%◌}
use Rattle.std.proofs.Common.{take, drop, refl, sym, ◌∙◌, ap, arith, length-drop, min, subst, zero-add}
use Rattle.std.specs.Int.Digits.{AllBelowBase, number_from_digits, number_from_digits_after}
use Rattle.std.proofs.lemmas.Int.Digits.{number_lt, number_more}
use Rattle.std.proofs.lemmas.Grind.{pow_more}
use Rattle.std.proofs.lemmas.List.{take-append-drop, length-take, drop_all, get_or-drop}
use Rattle.kb_base.specs.HashedText.{hash_from, hash_of}
use Rattle.kb_base.specs.Fingerprint.{IsBytes, narrowed, word_of, fingerprint_of, start_of}
use Rattle.kb_base.specs.declared.fingerprint.Fingerprint.{Fingerprint}
use Rattle.kb_base.specs.declared.fingerprint.TextStart.{TextStart}

-- ---- a number of at most eight bytes fits in 64 bits

all_below : (bs : List ℕ) → IsBytes bs → AllBelowBase 256 bs
all_below [] h = tt
all_below (b ∷ bs) h = (h 0, all_below bs (λ i. h (suc i)))

bytes_drop : (n : ℕ) (bs : List ℕ) → IsBytes bs → IsBytes (drop n bs)
bytes_drop n bs h i = rw (get_or-drop n bs i 0) (h (n + i))

bytes_take : (n : ℕ) (bs : List ℕ) → IsBytes bs → IsBytes (take n bs)
bytes_take zero bs h i = omega arith
bytes_take (suc n) [] h i = omega arith
bytes_take (suc n) (b ∷ bs) h zero = h 0
bytes_take (suc n) (b ∷ bs) h (suc i) = bytes_take n bs (λ j. h (suc j)) i

power_grows : (k n : ℕ) → 256 ^ n ≤ 256 ^ (k + n)
power_grows zero n = subst (λ m. 256 ^ n ≤ 256 ^ m) (sym (zero-add n)) (omega arith)
power_grows (suc k) n =
    let next : (k + n) + 1 ≡ suc k + n = omega arith in
    subst (λ m. 256 ^ n ≤ 256 ^ m) next (omega (arith, power_grows k n, pow_more 256 (k + n)))

power_fits : (n : ℕ) → n ≤ 8 → 256 ^ n ≤ 2 ^ 64
power_fits n h =
    let all : (8 - n) + n ≡ 8 = omega arith in
    subst (λ m. 256 ^ n ≤ 256 ^ m) all (power_grows (8 - n) n)

small_number : (bs : List ℕ) → IsBytes bs → length bs ≤ 8 → number_from_digits 256 bs < 2 ^ 64
small_number bs h le =
    omega (arith, number_lt 256 bs (all_below bs h), power_fits (length bs) le)

pub next_fits : (bs : List ℕ) (i word : ℕ) → IsBytes bs → length bs ≤ 8 → i < length bs
    → word ≡ number_from_digits 256 (take i bs) → word * 256 + get_or bs i 0 < 2 ^ 64
next_fits bs i word h le lt is =
    subst (λ (n : ℕ). n < 2 ^ 64) (number_more 256 bs i lt ∙ ap (λ (n : ℕ). n * 256 + get_or bs i 0) (sym is))
    (small_number (take (i + 1) bs) (bytes_take (i + 1) bs h) (omega (arith, length-take (i + 1) bs)))

-- ---- the same numbers are those of the same text

same_digits : (xs ys : List ℕ) (m n : ℕ) → IsBytes xs → IsBytes ys → length xs ≡ length ys
    → number_from_digits_after 256 m xs ≡ number_from_digits_after 256 n ys → (m ≡ n) × (xs ≡ ys)
same_digits [] [] m n bx by long e = (e, refl)
same_digits [] (y ∷ ys) m n bx by long e = absurd (omega arith)
same_digits (x ∷ xs) [] m n bx by long e = absurd (omega arith)
same_digits (x ∷ xs) (y ∷ ys) m n bx by long e =
    let rest = same_digits xs ys (m * 256 + x) (n * 256 + y) (λ i. bx (suc i)) (λ i. by (suc i)) (omega arith) e in
    let bound_x : x < 256 = bx 0 in
    let bound_y : y < 256 = by 0 in
    let sums : m * 256 + x ≡ n * 256 + y = rest.0 in
    let before : m ≡ n = omega arith in
    let first : x ≡ y = omega arith in
    let tails : xs ≡ ys = rest.1 in
    (before, cc)

same_word : (xs ys : List ℕ) → IsBytes xs → IsBytes ys → length xs ≡ length ys → word_of xs ≡ word_of ys
    → drop 8 xs ≡ drop 8 ys → xs ≡ ys
same_word xs ys bx by long word rest =
    sym (take-append-drop 8 xs)
    ∙ ap (λ bs. bs ++ drop 8 xs)
    (same_digits (take 8 xs) (take 8 ys) 0 0 (bytes_take 8 xs bx) (bytes_take 8 ys by)
    (length-take 8 xs ∙ ap (min 8) long ∙ sym (length-take 8 ys)) word).1
    ∙ ap (λ bs. take 8 ys ++ bs) rest
    ∙ take-append-drop 8 ys

same_behind : (xs ys : List ℕ) → length xs ≡ length ys → length (drop 8 xs) ≡ length (drop 8 ys)
same_behind xs ys e = length-drop 8 xs ∙ ap (λ n. n - 8) e ∙ sym (length-drop 8 ys)

exact_length : (m n : ℕ) → narrowed m ≡ narrowed n → narrowed m ≤ 32 → m ≡ n
exact_length m n e le = omega arith

-- texts of at most eight bytes
pub start_exact : (xs ys : List ℕ) → IsBytes xs → IsBytes ys → (start_of xs).length ≤ 8 → start_of xs ≡ start_of ys
    → xs ≡ ys
unfolding start_of
start_exact xs ys bx by le e =
    let long : length xs ≡ length ys =
    exact_length (length xs) (length ys) (ap (λ (s : TextStart). s.length) e) (omega arith) in
    let short : length xs ≤ 8 = omega arith in
    same_word xs ys bx by long (ap (λ (s : TextStart). s.word) e)
    (drop_all 8 xs short ∙ sym (drop_all 8 ys (omega arith)))

-- texts of at most 32 bytes
pub fingerprint_exact : (xs ys : List ℕ) → IsBytes xs → IsBytes ys → (fingerprint_of xs).length ≤ 32
    → fingerprint_of xs ≡ fingerprint_of ys → xs ≡ ys
unfolding fingerprint_of
fingerprint_exact xs ys bx by le e =
    let long : length xs ≡ length ys =
    exact_length (length xs) (length ys) (ap (λ (s : Fingerprint). s.length) e) le in
    let short : length xs ≤ 32 = omega arith in
    let long1 = same_behind xs ys long in
    let long2 = same_behind (drop 8 xs) (drop 8 ys) long1 in
    let long3 = same_behind (drop 8 (drop 8 xs)) (drop 8 (drop 8 ys)) long2 in
    let bx1 = bytes_drop 8 xs bx in
    let by1 = bytes_drop 8 ys by in
    let bx2 = bytes_drop 8 (drop 8 xs) bx1 in
    let by2 = bytes_drop 8 (drop 8 ys) by1 in
    same_word xs ys bx by long (ap (λ (s : Fingerprint). s.first) e)
    (same_word _ _ bx1 by1 long1 (ap (λ (s : Fingerprint). s.second) e)
    (same_word _ _ bx2 by2 long2 (ap (λ (s : Fingerprint). s.third) e)
    (same_word _ _ (bytes_drop 8 _ bx2) (bytes_drop 8 _ by2) long3 (ap (λ (s : Fingerprint). s.fourth) e)
    (drop_all 8 _ (behind3 xs short) ∙ sym (drop_all 8 _ (behind3 ys (omega arith)))))))
  where
    behind3 : (bs : List ℕ) → length bs ≤ 32 → length (drop 8 (drop 8 (drop 8 bs))) ≤ 8
    behind3 bs h = omega (arith, length-drop 8 (drop 8 (drop 8 bs)), length-drop 8 (drop 8 bs), length-drop 8 bs)

-- ---- hashes

hash_below : (hash : ℕ) (text : List ℕ) → hash < 1024 → hash_from hash text < 1024
hash_below hash [] h = h
hash_below hash (b ∷ text) h = hash_below ((hash * 31 + b) % 1024) text (omega arith)

pub hash_small : (text : List ℕ) → hash_of text < 1024
unfolding hash_of
hash_small text = hash_below 0 text (omega arith)

pub hash_in_fingerprint : (text : List ℕ) → (fingerprint_of text).hash ≡ hash_of text
unfolding fingerprint_of
hash_in_fingerprint text = refl

-- a text has no more bytes than its numbers say, if they say few
pub length_in_start : (text : List ℕ) → length text ≤ 8 → (start_of text).length ≤ 8
unfolding start_of
length_in_start text h = omega arith
