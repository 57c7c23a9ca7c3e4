-- Lemmas on the blocks of code.
use Rattle.std.proofs.Common.{◌≡◌, ◌<◌, ◌≤◌, ℕ, zero, suc, ◌+◌, ◌-◌, Bool, true, false, List, [], ◌∷◌, length}
use Rattle.std.proofs.Common.{Option, Some, None, ◌++◌, length-append, refl, sym, ap, ◌∙◌, subst, arith, if◌then◌else◌}
use Rattle.std.specs.Prelude.{slice_get, nat_lt, ◌≢◌}
use Rattle.std.proofs.lemmas.Bool.{ltb-true, ltb-false}
use Rattle.std.proofs.lemmas.Bool.Decides.{Decides-eqb}
use Rattle.kb_code.specs.declared.instr.Instr.{Instr}
use Rattle.kb_code.specs.declared.instr.Instr.TheVariants as i
use Rattle.kb_code.specs.Blocks.{closed, opened, around_from, around_at, first_of, block_of, same, same_block, Closes}
use Rattle.kb_code.specs.Plain.{is_plain}
use Rattle.kb_code.specs.Blocks.{is_bad, outermost, bad_block, IsFormed, IsAround, IsInnermost, BlockIsInnermost}

-- ---- the blocks around the next place

abbrev pub opened_by : ℕ → Option Instr → List ℕ → List ℕ
opened_by p None around = around
opened_by p (Some x) around = opened p x around

next_from : (s p : ℕ) (around : List ℕ) (code : List Instr) →
    around_from s around code (suc p) ≡ opened_by (s + p) (slice_get code p) (around_from s around code p)
next_from s zero around [] = refl
next_from s (suc p) around [] = refl
next_from s zero around (x ∷ code) =
    ap (λ n. opened n x around) (let e : s ≡ s + 0 = omega arith in e)
next_from s (suc p) around (x ∷ code) =
    next_from (suc s) p (opened s x around) code
    ∙ ap (λ n. opened_by n (slice_get code p) (around_from (suc s) (opened s x around) code p))
    (let e : suc s + p ≡ s + suc p = omega arith in e)

pub next_by : (code : List Instr) (p : ℕ) → around_at code (suc p) ≡ opened_by p (slice_get code p) (around_at code p)
unfolding around_at
next_by code p =
    next_from 0 p [] code
    ∙ ap (λ n. opened_by n (slice_get code p) (around_from 0 [] code p)) (let e : 0 + p ≡ p = omega arith in e)

pub around_next : (code : List Instr) (p : ℕ) (x : Instr) → slice_get code p ≡ Some x →
    around_at code (suc p) ≡ opened p x (around_at code p)
around_next code p x at = next_by code p ∙ ap (λ o. opened_by p o (around_at code p)) at

pub around_first : (code : List Instr) → around_at code 0 ≡ []
unfolding around_at
around_first code = refl

pub opened_plain : (p : ℕ) (x : Instr) (around : List ℕ) → is_plain x ≡ true → opened p x around ≡ around
opened_plain p (i.Repeat n) around e = absurd (cc)
opened_plain p i.End around e = absurd (cc)
opened_plain p x around e = refl

-- ---- the block around a place decides all that are around it

abbrev Nested : List Instr → List ℕ → Type 0
Nested code [] = Unit {0}
Nested code (q ∷ around) = (around_at code (suc q) ≡ q ∷ around) × Nested code around

nested_next : (code : List Instr) (p : ℕ) (o : Option Instr) (around : List ℕ) →
    around_at code (suc p) ≡ opened_by p o around → Nested code around → Nested code (opened_by p o around)
nested_next code p None around e n = n
nested_next code p (Some (i.Repeat k)) around e n = (e, n)
nested_next code p (Some i.End) [] e n = n
nested_next code p (Some i.End) (q ∷ around) e n = n.1
nested_next code p (Some x) around e n = n

nested : (code : List Instr) (p : ℕ) → Nested code (around_at code p)
nested code zero = subst (Nested code) (sym (around_first code)) tt
nested code (suc p) =
    let e = next_by code p in
    subst (Nested code) (sym e) (nested_next code p (slice_get code p) (around_at code p) e (nested code p))

pub around_inner : (code : List Instr) (p q : ℕ) (around : List ℕ) → around_at code p ≡ q ∷ around →
    around_at code (suc q) ≡ q ∷ around
around_inner code p q around e = (let n = nested code p in let m : Nested code (q ∷ around) = subst (Nested code) e n in m).0

-- places of one block have the same blocks around them
pub same_around : (code : List Instr) (p q : ℕ) → same_block code p q ≡ true →
    around_at code p ≡ around_at code q
same_around code p q e = by (around_at code p) (around_at code q) refl refl e
  where
    by : (qs rs : List ℕ) → around_at code p ≡ qs → around_at code q ≡ rs →
        same (first_of qs) (first_of rs) ≡ true → qs ≡ rs
    by [] [] is_p is_q e = refl
    by (a ∷ qs) [] is_p is_q e = absurd (cc)
    by [] (b ∷ rs) is_p is_q e = absurd (cc)
    by (a ∷ qs) (b ∷ rs) is_p is_q e =
        let s : a ≡ b = (Decides-eqb a b).0 e in
        sym (around_inner code p a qs is_p) ∙ ap (λ n. around_at code (suc n)) s ∙ around_inner code q b rs is_q

-- ---- well-formed blocks

not_bad_from : (s p : ℕ) (around : List ℕ) (code : List Instr) (x : Instr) → bad_block s around code ≡ None →
    slice_get code p ≡ Some x → is_bad x (around_from s around code p) ≡ false
not_bad_from s p around [] x none at = absurd (cc)
not_bad_from s p around (y ∷ code) x none at =
    by (is_bad y around) refl none p at (λ n k. not_bad_from (suc s) k (opened s y around) code x n)
  where
    by : (b : Bool) → is_bad y around ≡ b →
        (if b then Some s else bad_block (suc s) (opened s y around) code) ≡ None → (p : ℕ) →
        slice_get (y ∷ code) p ≡ Some x →
        (bad_block (suc s) (opened s y around) code ≡ None → (k : ℕ) → slice_get code k ≡ Some x →
        is_bad x (around_from (suc s) (opened s y around) code k) ≡ false) →
        is_bad x (around_from s around (y ∷ code) p) ≡ false
    by true is none p at rest = absurd (cc)
    by false is none zero at rest = let e : y ≡ x = cc in ap (λ z. is_bad z around) (sym e) ∙ is
    by false is none (suc p) at rest = rest none p at

pub good_at : (code : List Instr) (p : ℕ) (x : Instr) → bad_block 0 [] code ≡ None → slice_get code p ≡ Some x →
    is_bad x (around_at code p) ≡ false
unfolding around_at
good_at code p x blocks at = not_bad_from 0 p [] code x blocks at

pub not_bad : (code : List Instr) (p : ℕ) (x : Instr) → IsFormed code → slice_get code p ≡ Some x →
    is_bad x (around_at code p) ≡ false
not_bad code p x formed at = good_at code p x formed.blocks at

pub not_open : (o : Option ℕ) (around : List ℕ) → outermost around ≡ None → around ≡ []
not_open o [] e = refl
not_open o (q ∷ []) e = absurd (cc)
not_open o (q ∷ r ∷ around) e = let f : r ∷ around ≡ [] = not_open o (r ∷ around) e in absurd (cc)

past_from : (s p : ℕ) (around : List ℕ) (code : List Instr) → bad_block s around code ≡ None →
    length code ≤ p → around_from s around code p ≡ []
past_from s zero around [] none le = not_open None around none
past_from s (suc p) around [] none le = not_open None around none
past_from s zero around (x ∷ code) none le = absurd (omega (arith, le))
past_from s (suc p) around (x ∷ code) none le =
    by (is_bad x around) none (λ n. past_from (suc s) p (opened s x around) code n (omega (arith, le)))
  where
    by : (b : Bool) → (if b then Some s else bad_block (suc s) (opened s x around) code) ≡ None →
        (bad_block (suc s) (opened s x around) code ≡ None →
        around_from (suc s) (opened s x around) code p ≡ []) →
        around_from (suc s) (opened s x around) code p ≡ []
    by true none rest = absurd (cc)
    by false none rest = rest none

-- no block is open past the code
pub past_code : (code : List Instr) (p : ℕ) → IsFormed code → length code ≤ p → around_at code p ≡ []
unfolding around_at
past_code code p formed le = past_from 0 p [] code formed.blocks le

-- ---- an `End` closes one block, and a block has one `End`

-- each is smaller than the one before it
abbrev pub Falling : ℕ → List ℕ → Type 0
Falling p [] = Unit {0}
Falling p (q ∷ around) = (q < p) × Falling q around

falling_more : (p r : ℕ) (around : List ℕ) → p ≤ r → Falling p around → Falling r around
falling_more p r [] le f = f
falling_more p r (q ∷ around) le f = let lt = f.0 in (omega (arith, lt, le), f.1)

falling_next : (p : ℕ) (o : Option Instr) (around : List ℕ) → Falling p around →
    Falling (suc p) (opened_by p o around)
falling_next p None around f = falling_more p (suc p) around (omega arith) f
falling_next p (Some (i.Repeat k)) around f = (omega arith, f)
falling_next p (Some i.End) [] f = f
falling_next p (Some i.End) (q ∷ around) f =
    let lt = f.0 in falling_more q (suc p) around (omega (arith, lt)) f.1
falling_next p (Some x) around f = falling_more p (suc p) around (omega arith) f

pub falling : (code : List Instr) (p : ℕ) → Falling p (around_at code p)
falling code zero = subst (Falling zero) (sym (around_first code)) tt
falling code (suc p) =
    subst (Falling (suc p)) (sym (next_by code p))
    (falling_next p (slice_get code p) (around_at code p) (falling code p))

Lacks : ℕ → List ℕ → Type 0
Lacks q [] = Unit {0}
Lacks q (r ∷ around) = (q ≢ r) × Lacks q around

lacks_below : (p q : ℕ) (around : List ℕ) → p ≤ q → Falling p around → Lacks q around
unfolding Lacks
lacks_below p q [] le f = tt
lacks_below p q (r ∷ around) le f =
    let lt = f.0 in (λ e. absurd (omega (arith, lt, le, e)), lacks_below r q around (omega (arith, lt, le)) f.1)

lacks_next : (p q : ℕ) (o : Option Instr) (around : List ℕ) → q < p → Lacks q around →
    Lacks q (opened_by p o around)
unfolding Lacks
lacks_next p q None around lt l = l
lacks_next p q (Some (i.Repeat k)) around lt l = (λ e. absurd (omega (arith, lt, e)), l)
lacks_next p q (Some i.End) [] lt l = l
lacks_next p q (Some i.End) (r ∷ around) lt l = l.1
lacks_next p q (Some x) around lt l = l

lacks_from : (code : List Instr) (p q d : ℕ) → q < p → Lacks q (around_at code p) → Lacks q (around_at code (d + p))
lacks_from code p q zero lt l = subst (λ n. Lacks q (around_at code n)) (let e : p ≡ 0 + p = omega arith in e) l
lacks_from code p q (suc d) lt l =
    subst (Lacks q) (sym (ap (around_at code) (let e : suc d + p ≡ suc (d + p) = omega arith in e) ∙ next_by code (d + p)))
    (lacks_next (d + p) q (slice_get code (d + p)) (around_at code (d + p)) (omega (arith, lt))
    (lacks_from code p q d lt l))

lacks_first : (q : ℕ) (around : List ℕ) → Lacks q around → first_of around ≡ Some q → ⊥
unfolding Lacks
lacks_first q [] l e = absurd (cc)
lacks_first q (r ∷ around) l e = let s : q ≡ r = cc in l.0 s

-- the block that an `End` closes is around it
pub closed_around : (code : List Instr) (q e : ℕ) → Closes code q e →
    (around : List ℕ) × (around_at code e ≡ q ∷ around)
closed_around code q e c = by (around_at code e) refl c.block
  where
    by : (rs : List ℕ) → around_at code e ≡ rs → first_of rs ≡ Some q →
        (around : List ℕ) × (around_at code e ≡ q ∷ around)
    by [] is f = absurd (cc)
    by (r ∷ rs) is f = let s : r ≡ q = cc in (rs, is ∙ ap (λ n. n ∷ rs) s)

pub start_before : (code : List Instr) (q e : ℕ) → Closes code q e → q < e
start_before code q e c =
    let a = closed_around code q e c in
    (let f = falling code e in let g : Falling e (q ∷ a.0) = subst (Falling e) a.1 f in g).0

no_later_end : (code : List Instr) (q e d : ℕ) → Closes code q e → Closes code q (d + suc e) → ⊥
no_later_end code q e d c later =
    let a = closed_around code q e c in
    let f : Falling e (q ∷ a.0) = subst (Falling e) a.1 (falling code e) in
    let behind : around_at code (suc e) ≡ a.0 = around_next code e i.End c.at ∙ ap (opened e i.End) a.1 in
    let lt = f.0 in
    lacks_first q (around_at code (d + suc e))
    (lacks_from code (suc e) q d (omega (arith, lt))
    (subst (Lacks q) (sym behind) (lacks_below q q a.0 (omega arith) f.1))) later.block

pub one_end : (code : List Instr) (q a b : ℕ) → Closes code q a → Closes code q b → a ≡ b
one_end code q a b c d = by (nat_lt a b) (nat_lt b a) refl refl
  where
    by : (s t : Bool) → nat_lt a b ≡ s → nat_lt b a ≡ t → a ≡ b
    by true t less more =
        let lt = ltb-true a b less in
        absurd (no_later_end code q a (b - suc a) c
        (subst (Closes code q) (let e : b ≡ b - suc a + suc a = omega (arith, lt) in e) d))
    by false true less more =
        let lt = ltb-true b a more in
        absurd (no_later_end code q b (a - suc b) d
        (subst (Closes code q) (let e : a ≡ a - suc b + suc b = omega (arith, lt) in e) c))
    by false false less more =
        let l = ltb-false a b less in let m = ltb-false b a more in omega (arith, l, m)

-- ---- the block of a place is the innermost around it

end_of_code : (code : List Instr) (p : ℕ) (pre around : List ℕ) (q : ℕ) → IsFormed code → length code ≤ p →
    around_at code p ≡ pre ++ q ∷ around → ⊥
end_of_code code p pre around q formed le is =
    let e : [] ≡ pre ++ q ∷ around = sym (past_code code p formed le) ∙ is in
    let l = ap length e in
    let m = length-append pre (q ∷ around) in
    omega (arith, l, m)

-- the `End` of a block that is open, with those inside of it
end_from : (code : List Instr) (q : ℕ) (around : List ℕ) → IsFormed code → (d p : ℕ) (pre : List ℕ) →
    length code ≤ p + d → around_at code p ≡ pre ++ q ∷ around → (e : ℕ) × Closes code q e × (p ≤ e)
end_from code q around formed zero p pre le is =
    absurd (end_of_code code p pre around q formed (omega (arith, le)) is)
end_from code q around formed (suc d) p pre le is =
    by (slice_get code p) refl pre is
    (λ inner e. let r = end_from code q around formed d (suc p) inner (omega (arith, le)) e in
    (r.0, r.1, let l = r.2 in omega (arith, l)))
  where
    by : (o : Option Instr) → slice_get code p ≡ o → (pre : List ℕ) → around_at code p ≡ pre ++ q ∷ around →
        ((inner : List ℕ) → around_at code (suc p) ≡ inner ++ q ∷ around → (e : ℕ) × Closes code q e × (p ≤ e)) →
        (e : ℕ) × Closes code q e × (p ≤ e)
    by None at pre is rest = rest pre (next_by code p ∙ ap (λ o. opened_by p o (around_at code p)) at ∙ is)
    by (Some (i.Repeat n)) at pre is rest =
        rest (p ∷ pre) (around_next code p (i.Repeat n) at ∙ ap (λ a. p ∷ a) is)
    by (Some i.End) at [] is rest = (p, record { at = at; block = ap first_of is }, omega arith)
    by (Some i.End) at (r ∷ pre) is rest =
        rest pre (around_next code p i.End at ∙ ap (opened p i.End) is)
    by (Some x) at pre is rest = rest pre (around_next code p x at ∙ is)

still_open : (code : List Instr) (p q e : ℕ) → Closes code q e → q < p → p ≤ e → Lacks q (around_at code p) → ⊥
still_open code p q e c lt le l =
    lacks_first q (around_at code e)
    (subst (λ n. Lacks q (around_at code n)) (let s : e - p + p ≡ e = omega (arith, le) in s)
    (lacks_from code p q (e - p) lt l)) c.block

pub block_is_innermost : BlockIsInnermost
unfolding Lacks
block_is_innermost code p formed = by (around_at code p) refl (falling code p)
  where
    by : (qs : List ℕ) → around_at code p ≡ qs → Falling p qs → IsInnermost code p (first_of qs)
    by [] is f = λ q e b.
        still_open code p q e b.closes b.before b.behind (subst (Lacks q) (sym is) tt)
    by (q ∷ qs) is f =
        let r = end_from code q qs formed (length code) p [] (omega arith) is in
        (r.0, record { closes = r.1; before = f.0; behind = r.2 }, λ o e b. not_more q qs is f o e b (nat_lt q o) refl)
      where
        not_more : (q : ℕ) (qs : List ℕ) → around_at code p ≡ q ∷ qs → Falling p (q ∷ qs) → (o e : ℕ) →
            IsAround code o e p → (b : Bool) → nat_lt q o ≡ b → o ≤ q
        not_more q qs is f o e b true l =
            let lt = ltb-true q o l in
            absurd (still_open code p o e b.closes b.before b.behind
            (subst (Lacks o) (sym is) (λ s. absurd (omega (arith, lt, s)), lacks_below q o qs (omega (arith, lt)) f.1)))
        not_more q qs is f o e b false l = ltb-false q o l
