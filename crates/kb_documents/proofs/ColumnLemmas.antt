-- Columns: the code units of characters, and the way back to an index.
use Rattle.std.proofs.Common.{◌≡◌, ◌∙◌, ◌<◌, ◌≤◌, ◌+◌, ◌-◌, ℕ, zero, suc, List, [], ◌∷◌, Bool, true, false}
use Rattle.std.proofs.Common.{ap, arith, cond, length, refl, subst, sym, take, ◌⊎◌, inl, inr, ◌/◌, ◌%◌}
use lib.Utf8.{encode}
use Rattle.std.specs.Prelude.{nat_lt, nat_le, ◌&&◌, slice_index, sum_by, encode_utf8, encode_utf8_all}
use Rattle.std.specs.Char.Escape.{encode_utf16}
use Rattle.std.proofs.Math.Bool.{and-false}
use Rattle.std.proofs.lemmas.Bool.{lt-ltb, le-ltb, lt-leb, le-leb, ltb-true, ltb-false}
use Rattle.std.proofs.lemmas.List.Sums.{sum_by-append, sum_by-cons}
use Rattle.kb_documents.specs.declared.encoding.Encoding.{Encoding}
use Rattle.kb_documents.specs.declared.encoding.Encoding.TheVariants.{Utf8, Utf16}
use Rattle.kb_documents.specs.Columns.{back, column, fit, is_inside, reach, units}
use Rattle.kb_documents.specs.Places.{code_units}

told : (b : Bool) → (b ≡ true) ⊎ (b ≡ false)
told true = inl refl
told false = inr refl

-- ---- there and back

some_units : (encoding : Encoding) (b : ℕ) → is_inside b ≡ false → 0 < units encoding b
some_units Utf8 b whole = omega arith
some_units Utf16 b whole =
    subst (λ (t : Bool). 0 < cond t 0 (cond (nat_lt b 240) 1 2)) (sym whole) (some (nat_lt b 240))
  where
    some : (t : Bool) → 0 < cond t 1 2
    some true = omega arith
    some false = omega arith

reach_column : (encoding : Encoding) (line : List ℕ) (n : ℕ) → n ≤ length line → is_inside (slice_index line n) ≡ false
    → reach encoding line (column encoding (take n line)) ≡ n
reach_column encoding [] zero within whole = refl
reach_column encoding [] (suc n) within whole = absurd (omega (arith, within))
reach_column encoding (b ∷ bs) zero within whole =
    ap (λ (t : Bool). cond t 0 (suc (reach encoding bs (0 - units encoding b))))
    (lt-ltb 0 (units encoding b) (some_units encoding b whole))
reach_column encoding (b ∷ bs) (suc n) within whole =
    let rest = column encoding (take n bs) in
    let all = sum_by-cons (units encoding) b (take n bs) in
    let left : units encoding b + rest - units encoding b ≡ rest = omega arith in
    ap (reach encoding (b ∷ bs)) all
    ∙ ap (λ (t : Bool). cond t 0 (suc (reach encoding bs (units encoding b + rest - units encoding b))))
    (le-ltb (units encoding b + rest) (units encoding b) (omega arith))
    ∙ ap (λ (k : ℕ). suc (reach encoding bs k)) left
    ∙ ap suc (reach_column encoding bs n (omega (arith, within)) whole)

back_here : (line : List ℕ) (n : ℕ) → is_inside (slice_index line n) ≡ false → back line n ≡ n
back_here line zero whole = refl
back_here line (suc n) whole = ap (λ (t : Bool). cond t (back line n) (suc n)) whole

-- the column of a character in a line leads back to it
pub fit_column : (encoding : Encoding) (line : List ℕ) (n : ℕ) → n ≤ length line
    → is_inside (slice_index line n) ≡ false → fit encoding line (column encoding (take n line)) ≡ n
fit_column encoding line n within whole =
    ap (back line) (reach_column encoding line n within whole) ∙ back_here line n whole

-- ---- code units

one_each : (bytes : List ℕ) → column Utf8 bytes ≡ length bytes
one_each [] = refl
one_each (b ∷ bs) =
    let rest = one_each bs in
    let all = sum_by-cons (units Utf8) b bs in
    omega (arith, all, rest)

by_character : (encoding : Encoding) → ((c : ℕ) → column encoding (encode_utf8 c) ≡ code_units encoding c)
    → (cs : List ℕ) → column encoding (encode_utf8_all cs) ≡ sum_by (code_units encoding) cs
by_character encoding one [] = refl
by_character encoding one (c ∷ cs) =
    sum_by-append (units encoding) (encode_utf8 c) (encode_utf8_all cs)
    ∙ ap (λ (n : ℕ). n + column encoding (encode_utf8_all cs)) (one c)
    ∙ ap (λ (n : ℕ). code_units encoding c + n) (by_character encoding one cs)
    ∙ sym (sum_by-cons (code_units encoding) c cs)

above : (b : ℕ) → 191 < b → is_inside b ≡ false
above b h = ap (λ (t : Bool). nat_le 128 b && t) (lt-leb b 191 h) ∙ and-false (nat_le 128 b)

-- the units that a byte adds, by its range
inside_adds : (b : ℕ) → 128 ≤ b → b ≤ 191 → units Utf16 b ≡ 0
inside_adds b low high =
    ap (λ (t : Bool). cond (t && nat_le b 191) 0 (cond (nat_lt b 240) 1 2)) (le-leb 128 b low)
    ∙ ap (λ (t : Bool). cond t 0 (cond (nat_lt b 240) 1 2)) (le-leb b 191 high)

ascii_adds : (b : ℕ) → b < 128 → units Utf16 b ≡ 1
ascii_adds b low =
    ap (λ (t : Bool). cond (t && nat_le b 191) 0 (cond (nat_lt b 240) 1 2)) (lt-leb 128 b low)
    ∙ ap (λ (t : Bool). cond t 1 2) (lt-ltb b 240 (omega arith))

first_adds : (b : ℕ) → 191 < b → b < 240 → units Utf16 b ≡ 1
first_adds b low high =
    ap (λ (t : Bool). cond t 0 (cond (nat_lt b 240) 1 2)) (above b low)
    ∙ ap (λ (t : Bool). cond t 1 2) (lt-ltb b 240 high)

four_adds : (b : ℕ) → 240 ≤ b → units Utf16 b ≡ 2
four_adds b low =
    ap (λ (t : Bool). cond t 0 (cond (nat_lt b 240) 1 2)) (above b (omega arith))
    ∙ ap (λ (t : Bool). cond t 1 2) (le-ltb b 240 low)

next_adds : (bits : ℕ) → units Utf16 (128 + bits % 64) ≡ 0
next_adds bits = inside_adds (128 + bits % 64) (omega arith) (omega arith)

one_byte : (c : ℕ) → c < 128 → column Utf16 (encode_utf8 c) ≡ length (encode_utf16 c)
unfolding encode
one_byte c small =
    let p = lt-ltb c 128 small in
    let r = lt-ltb c 65536 (omega arith) in
    rw (p, r) (omega (arith, ascii_adds c small))

two_bytes : (c : ℕ) → 128 ≤ c → c < 2048 → column Utf16 (encode_utf8 c) ≡ length (encode_utf16 c)
unfolding encode
two_bytes c large small =
    let p = le-ltb c 128 large in
    let q = lt-ltb c 2048 small in
    let r = lt-ltb c 65536 (omega arith) in
    rw (p, q, r) (omega (arith, first_adds (192 + c / 64) (omega arith) (omega arith), next_adds c))

three_bytes : (c : ℕ) → 2048 ≤ c → c < 65536 → column Utf16 (encode_utf8 c) ≡ length (encode_utf16 c)
unfolding encode
three_bytes c large small =
    let p = le-ltb c 128 (omega arith) in
    let q = le-ltb c 2048 large in
    let r = lt-ltb c 65536 small in
    rw (p, q, r)
    (omega (arith, first_adds (224 + c / 4096) (omega arith) (omega arith), next_adds (c / 64), next_adds c))

four_bytes : (c : ℕ) → 65536 ≤ c → column Utf16 (encode_utf8 c) ≡ length (encode_utf16 c)
unfolding encode
four_bytes c large =
    let p = le-ltb c 128 (omega arith) in
    let q = le-ltb c 2048 (omega arith) in
    let r = le-ltb c 65536 large in
    rw (p, q, r)
    (omega (
      arith,
      four_adds (240 + c / 262144) (omega arith),
      next_adds (c / 4096),
      next_adds (c / 64),
      next_adds c,
    ))

utf16_units : (c : ℕ) → column Utf16 (encode_utf8 c) ≡ length (encode_utf16 c)
utf16_units c =
    elim (told (nat_lt c 128)) [
      | inl e ↦ one_byte c (ltb-true c 128 e)
      | inr e ↦ elim (told (nat_lt c 2048)) [
        | inl f ↦ two_bytes c (ltb-false c 128 e) (ltb-true c 2048 f)
        | inr f ↦ elim (told (nat_lt c 65536)) [
          | inl g ↦ three_bytes c (ltb-false c 2048 f) (ltb-true c 65536 g)
          | inr g ↦ four_bytes c (ltb-false c 65536 g)
        ]
      ]
    ]

pub counted_units : (encoding : Encoding) (cs : List ℕ)
    → column encoding (encode_utf8_all cs) ≡ sum_by (code_units encoding) cs
counted_units Utf8 cs = by_character Utf8 (λ c. one_each (encode_utf8 c)) cs
counted_units Utf16 cs = by_character Utf16 utf16_units cs
