-- The laws of the pieces and of the blanked text, for every text.
use Rattle.std.proofs.Common.{◌≡◌, ℕ, zero, suc, cond, min, ◌+◌, ◌-◌, ◌<◌, ◌≤◌, ◌⊎◌, inl, inr, Bool, true}
use Rattle.std.proofs.Common.{false, ◌&&◌, List, [], ◌∷◌, ◌++◌, length, get_or, take, drop, map, Option}
use Rattle.std.proofs.Common.{Some, None, option_map, Result, Ok, Err, refl, sym, ap, ◌∙◌, subst, arith, eqb}
use Rattle.std.specs.List.{flat_map}
use Rattle.std.proofs.lemmas.Bool.{false≢true}
use Rattle.std.proofs.lemmas.Bool.Decides.{nat_tests}
use Rattle.std.proofs.lemmas.List.{length-append, length-map, length-take, drop_min, take-append-drop}
use Rattle.kb_jsonc.specs.declared.fault.JsoncFault.{JsoncFault}
use Rattle.kb_jsonc.specs.declared.fault.JsoncFault.TheVariants.{OpenComment, OpenString}
use Rattle.kb_base.specs.Reading.{◌>>=◌, or_fault}
use Rattle.kb_base.specs.Blank.{is_blank}
use Rattle.kb_jsonc.specs.Bytes.{is_line_end, blanked}
use Rattle.kb_jsonc.specs.Pieces.{Piece, quoted, comment, single, bytes_of, begins, string_len, block_len}
use Rattle.kb_jsonc.specs.Pieces.{line_len, first_piece, pieces_past, pieces}
use Rattle.kb_jsonc.specs.Text.{next_of, is_trailing, plain_of, plain_text}
use Rattle.kb_jsonc.specs.PieceLaws.{PiecesAreWhole, LengthStays, OnlyBlanks, EndsFirst}

told : (t : Bool) → (t ≡ true) ⊎ (t ≡ false)
told true = inl refl
told false = inr refl

ok_same : {A : Type 0} (x y : A) (r : Result A JsoncFault) → r ≡ Ok x → r ≡ Ok y → x ≡ y
ok_same x y r d e = cc

bind_ok : {A B : Type 0} (r : Result A JsoncFault) (f : A → Result B JsoncFault) (y : B) → (r >>= f) ≡ Ok y
    → (x : A) × (r ≡ Ok x) × (f x ≡ Ok y)
bind_ok (Ok x) f y e = (x, refl, e)
bind_ok (Err fault) f y e = cc

piece_ok : (fault : JsoncFault) (o : Option ℕ) (g : ℕ → Piece) (p : Piece)
    → or_fault fault (option_map g o) ≡ Ok p → (n : ℕ) × (g n ≡ p)
piece_ok fault (Some n) g p e = (n, cc)
piece_ok fault None g p e = cc

front_whole : (b n : ℕ) (bs : List ℕ) → (b ∷ take n bs) ++ drop (length (b ∷ take n bs) - 1) bs ≡ b ∷ bs
front_whole b n bs =
    let l : length (b ∷ take n bs) - 1 ≡ min n (length bs) = omega (arith, length-take n bs) in
    rw (l, drop_min n bs) (ap (λ xs. b ∷ xs) (take-append-drop n bs))

first_whole : (b : ℕ) (bs : List ℕ) (p : Piece) → first_piece b bs ≡ Ok p
    → bytes_of p ++ drop (length (bytes_of p) - 1) bs ≡ b ∷ bs
unfolding first_piece
first_whole b bs p e =
    let W : Piece → Type 0 = λ p. bytes_of p ++ drop (length (bytes_of p) - 1) bs ≡ b ∷ bs in
    elim (told (eqb b 34)) [
      | inl q ↦ (let f = piece_ok OpenString (string_len bs) (λ n. quoted (b ∷ take n bs)) p (rw q at e) in
          subst W f.1 (front_whole b f.0 bs))
      | inr q ↦ elim (told (eqb b 47 && begins 47 bs)) [
        | inl r ↦ (let f : comment (b ∷ take (line_len bs) bs) ≡ p = ok_same _ _ _ refl (rw (q, r) at e) in
            subst W f (front_whole b (line_len bs) bs))
        | inr r ↦ elim (told (eqb b 47 && begins 42 bs)) [
          | inl s ↦ (let f = piece_ok OpenComment (block_len (drop 1 bs))
              (λ n. comment (b ∷ take (n + 1) bs)) p (rw (q, r, s) at e) in
              subst W f.1 (front_whole b (f.0 + 1) bs))
          | inr s ↦ (let f : single b ≡ p = ok_same _ _ _ refl (rw (q, r, s) at e) in subst W f refl)
        ]
      ]
    ]

past_whole : (n : ℕ) (bs : List ℕ) (ps : List Piece) → pieces_past n bs ≡ Ok ps
    → flat_map bytes_of ps ≡ drop n bs
past_whole zero [] ps e = let s : [] ≡ ps = cc in rw (← s) refl
past_whole (suc n) [] ps e = let s : [] ≡ ps = cc in rw (← s) refl
past_whole (suc n) (b ∷ bs) ps e = past_whole n bs ps e
past_whole zero (b ∷ bs) ps e =
    let first = bind_ok (first_piece b bs)
    (λ p. pieces_past (length (bytes_of p) - 1) bs >>= λ rest. Ok (p ∷ rest)) ps e in
    let p : Piece = first.0 in
    let rest = bind_ok (pieces_past (length (bytes_of p) - 1) bs) (λ rest. Ok (p ∷ rest)) ps first.2 in
    let s : p ∷ rest.0 ≡ ps = ok_same _ _ _ refl rest.2 in
    subst (λ (qs : List Piece). flat_map bytes_of qs ≡ b ∷ bs) s
    (ap (λ xs. bytes_of p ++ xs) (past_whole (length (bytes_of p) - 1) bs rest.0 rest.1)
    ∙ first_whole b bs p first.1)

pub pieces_are_whole : PiecesAreWhole
pieces_are_whole text ps e = sym (past_whole 0 text ps e)

length-plain_of : (before : Option ℕ) (ps : List Piece)
    → length (plain_of before ps) ≡ length (flat_map bytes_of ps)
length-plain_of before [] = refl
length-plain_of before (quoted bytes ∷ ps) =
    rw (length-append, length-append, length-plain_of (Some 34) ps) refl
length-plain_of before (comment bytes ∷ ps) =
    rw (length-append, length-append, length-map, length-plain_of before ps) refl
length-plain_of before (single b ∷ ps) = ap suc (length-plain_of (cond (is_blank b) before (Some b)) ps)

pub length_stays : LengthStays
unfolding plain_text
length_stays text plain e =
    let cut = bind_ok (pieces text) (λ ps. Ok (plain_of None ps)) plain e in
    let s : plain_of None cut.0 ≡ plain = ok_same _ _ _ refl cut.2 in
    ap length (sym s) ∙ (length-plain_of None cut.0 ∙ ap length (past_whole 0 text cut.0 cut.1))

one_more : (o : Option ℕ) (n : ℕ) → option_map (λ m. m + 1) o ≡ Some n → (m : ℕ) × (o ≡ Some m) × (m + 1 ≡ n)
one_more None n e = cc
one_more (Some m) n e = (m, refl, cc)

block_two : (bs : List ℕ) (n : ℕ) → block_len bs ≡ Some n → 2 ≤ n
block_two [] n e = cc
block_two (b ∷ []) n e = cc
block_two (b ∷ c ∷ cs) n e =
    elim (told (eqb b 42 && eqb c 47)) [
      | inl t ↦ (let f : Some 2 ≡ Some n = rw t at e in let g : 2 ≡ n = cc in omega arith)
      | inr t ↦ (let f = one_more (block_len (c ∷ cs)) n (rw t at e) in
          let g : 2 ≤ f.0 = block_two (c ∷ cs) f.0 f.1 in omega (arith, f.2))
    ]

both : (b c : ℕ) → (eqb b 42 && eqb c 47) ≡ true → (b ≡ 42) × (c ≡ 47)
both b c t = (grind (arith, nat_tests), grind (arith, nat_tests))

not_both : (b c : ℕ) → (eqb b 42 && eqb c 47) ≡ false → b ≡ 42 → c ≡ 47 → ⊥
not_both b c t p q = false≢true (sym (rw (p, q) at t))

before : (b c : ℕ) (cs : List ℕ) (n i : ℕ) → (b ≡ 42 → c ≡ 47 → ⊥)
    → ((i : ℕ) → i < n → get_or (c ∷ cs) i 0 ≡ 42 → get_or (c ∷ cs) (i + 1) 0 ≡ 47 → ⊥) → i < suc n
    → get_or (b ∷ c ∷ cs) i 0 ≡ 42 → get_or (b ∷ c ∷ cs) (i + 1) 0 ≡ 47 → ⊥
before b c cs n zero apart rest h p q = apart p q
before b c cs n (suc i) apart rest h p q = let next : suc i + 1 ≡ suc (i + 1) = omega arith in
    rest i (omega arith) p (rw next at q)

pub ends_first : EndsFirst
ends_first [] n e = cc
ends_first (b ∷ []) n e = cc
ends_first (b ∷ c ∷ cs) zero e =
    elim (told (eqb b 42 && eqb c 47)) [
      | inl t ↦ (let f = both b c t in (f.0, f.1, λ i h. absurd (omega arith)))
      | inr t ↦ (let f = one_more (block_len (c ∷ cs)) 2 (rw t at e) in
          let g : 2 ≤ f.0 = block_two (c ∷ cs) f.0 f.1 in absurd (omega (arith, f.2)))
    ]
ends_first (b ∷ c ∷ cs) (suc n) e =
    elim (told (eqb b 42 && eqb c 47)) [
      | inl t ↦ (let f : Some 2 ≡ Some (suc n + 2) = rw t at e in let g : 2 ≡ suc n + 2 = cc in
          absurd (omega arith))
      | inr t ↦ (
          let f = one_more (block_len (c ∷ cs)) (suc n + 2) (rw t at e) in
          let m : f.0 ≡ n + 2 = omega (arith, f.2) in
          let rest = ends_first (c ∷ cs) n (rw m at f.1) in
          let after : suc n + 1 ≡ suc (n + 1) = omega arith in
          (rest.0, rw after rest.1, λ i h. before b c cs n i (not_both b c t) rest.2 h))
    ]

-- each byte stays, or becomes a space
abbrev Stays : List ℕ → List ℕ → Type 0
Stays [] [] = Unit {0}
Stays [] (c ∷ cs) = ⊥
Stays (b ∷ bs) [] = ⊥
Stays (b ∷ bs) (c ∷ cs) = ((c ≡ b) ⊎ (c ≡ 32)) × Stays bs cs

stays_same : (xs : List ℕ) → Stays xs xs
stays_same [] = tt
stays_same (x ∷ xs) = (inl refl, stays_same xs)

stays_append : (xs ys us vs : List ℕ) → Stays xs ys → Stays us vs → Stays (xs ++ us) (ys ++ vs)
stays_append [] [] us vs s t = t
stays_append [] (y ∷ ys) us vs s t = absurd s
stays_append (x ∷ xs) [] us vs s t = absurd s
stays_append (x ∷ xs) (y ∷ ys) us vs s t = (s.0, stays_append xs ys us vs s.1 t)

one_stays : (t : Bool) (b : ℕ) → (cond t 32 b ≡ b) ⊎ (cond t 32 b ≡ 32)
one_stays true b = inr refl
one_stays false b = inl refl

one_blanked : (t : Bool) (b : ℕ) → (cond t b 32 ≡ b) ⊎ (cond t b 32 ≡ 32)
one_blanked true b = inl refl
one_blanked false b = inr refl

stays_blanked : (xs : List ℕ) → Stays xs (map blanked xs)
stays_blanked [] = tt
stays_blanked (x ∷ xs) = (one_blanked (is_line_end x) x, stays_blanked xs)

stays_plain : (before : Option ℕ) (ps : List Piece) → Stays (flat_map bytes_of ps) (plain_of before ps)
stays_plain before [] = tt
stays_plain before (quoted bytes ∷ ps) =
    stays_append bytes bytes _ _ (stays_same bytes) (stays_plain (Some 34) ps)
stays_plain before (comment bytes ∷ ps) =
    stays_append bytes (map blanked bytes) _ _ (stays_blanked bytes) (stays_plain before ps)
stays_plain before (single b ∷ ps) =
    (one_stays (is_trailing before b (next_of ps)) b, stays_plain (cond (is_blank b) before (Some b)) ps)

stays_at : (xs ys : List ℕ) (i : ℕ) → Stays xs ys → (get_or ys i 0 ≡ get_or xs i 0) ⊎ (get_or ys i 0 ≡ 32)
stays_at [] [] i s = inl refl
stays_at [] (y ∷ ys) i s = absurd s
stays_at (x ∷ xs) [] i s = absurd s
stays_at (x ∷ xs) (y ∷ ys) zero s = s.0
stays_at (x ∷ xs) (y ∷ ys) (suc i) s = stays_at xs ys i s.1

pub only_blanks : OnlyBlanks
unfolding plain_text
only_blanks text plain e i =
    let cut = bind_ok (pieces text) (λ ps. Ok (plain_of None ps)) plain e in
    let s : plain_of None cut.0 ≡ plain = ok_same _ _ _ refl cut.2 in
    let whole : flat_map bytes_of cut.0 ≡ text = past_whole 0 text cut.0 cut.1 in
    let stays : Stays (flat_map bytes_of cut.0) (plain_of None cut.0) = stays_plain None cut.0 in
    let there : Stays text plain =
    subst (λ ys. Stays text ys) s (subst (λ xs. Stays xs (plain_of None cut.0)) whole stays) in
    stays_at text plain i there
