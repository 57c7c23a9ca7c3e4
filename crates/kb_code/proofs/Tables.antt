-- Lemmas on the tables of blocks.
use Rattle.std.proofs.Common.{◌≡◌, ◌<◌, ℕ, zero, suc, ◌+◌, Bool, true, false, List, [], ◌∷◌, ◌++◌, length}
use Rattle.std.proofs.Common.{drop, Option, Some, None, refl, sym, ap, ◌∙◌, subst, arith, if◌then◌else◌}
use Rattle.std.proofs.Common.{length-append}
use Rattle.std.specs.Prelude.{option_map, slice_get, slice_set, slice_index, slice_index_or, nat_lt, ◌≢◌, IfSome}
use Rattle.std.proofs.lemmas.Bool.{ltb-true, ltb-false}
use Rattle.std.proofs.lemmas.List.{get_or-set_same, get_or-set_other, length-set, get_or_append_left}
use Rattle.std.proofs.lemmas.Option.{slice_get_within}
use Rattle.std.proofs.Math.Seq.{get_or-append_seam}
use Rattle.kb_code.specs.declared.instr.Instr.{Instr}
use Rattle.kb_code.specs.declared.instr.Instr.TheVariants as i
use Rattle.kb_code.specs.declared.fault.CodeFault.{CodeFault}
use Rattle.kb_code.specs.declared.fault.CodeFault.TheVariants.{BadBlock}
use Rattle.kb_code.specs.declared.version.Version.{Version}
use Rattle.kb_code.specs.declared.version.Version.TheVariants.{One, Two}
use Rattle.kb_code.specs.Blocks.{opened, around_at, first_of, block_of, Closes, is_bad, bad_block, IsFormed}
use Rattle.kb_code.specs.Code.{instr_fault, earlier, first_fault, code_fault}
use Rattle.kb_code.specs.Tables.{AreStarts, AreEnds, with_end}
use Rattle.kb_code.proofs.BlockLemmas.{falling, one_end, start_before, Falling}
use Rattle.kb_code.proofs.Lists.{drop_at}

-- a table with one entry more
pub starts_more : (code : List Instr) (starts : List (Option ℕ)) (p : ℕ) → AreStarts code starts p →
    AreStarts code (starts ++ block_of code p ∷ []) (p + 1)
starts_more code starts p are = record {
  size = let l = are.size in
      let m = length-append starts (block_of code p ∷ []) in omega (arith, l, m);
  each = λ q lt. by q lt (nat_lt q p) refl;
}
  where
    by : (q : ℕ) → q < p + 1 → (b : Bool) → nat_lt q p ≡ b →
        slice_index_or (starts ++ block_of code p ∷ []) q None ≡ block_of code q
    by q lt true e =
        let l = ltb-true q p e in
        get_or_append_left starts (block_of code p ∷ []) None q (let s = are.size in omega (arith, s, l)) ∙ are.each q l
    by q lt false e =
        let s : q ≡ length starts = (let l = ltb-false q p e in let k = are.size in omega (arith, l, k, lt)) in
        let t : length starts ≡ q = sym s in
        ap (λ n. slice_index_or (starts ++ block_of code p ∷ []) n None) s
        ∙ get_or-append_seam starts (block_of code p) [] None
        ∙ ap (block_of code) (let k = are.size in omega (arith, k, t))

-- the block of a place has a place in the table
pub start_within : (code : List Instr) (p size : ℕ) → p < size → IfSome (block_of code p) (λ q. q < size)
start_within code p size lt = by (around_at code p) (falling code p)
  where
    by : (around : List ℕ) → Falling p around → IfSome (first_of around) (λ q. q < size)
    by [] f = tt
    by (q ∷ around) f = let l = f.0 in omega (arith, l, lt)

-- the table of `End`s, where one is passed
pub ends_more : (code : List Instr) (ends : List ℕ) (p : ℕ) (x : Instr) → slice_get code p ≡ Some x →
    AreEnds code ends p → AreEnds code (with_end ends (block_of code p) p x) (p + 1)
ends_more code ends p x at are = by (block_of code p) x refl at
  where
    below : (q e : ℕ) → e < p + 1 → (e ≢ p) → Closes code q e → slice_index ends q ≡ e
    below q e lt other c = are.each q e (omega (arith, lt, other)) c

    same : (y : Instr) → slice_get code p ≡ Some y → (i.End ≢ y) → AreEnds code ends (p + 1)
    same y is other = record {
      size = are.size;
      each = λ q e lt c. below q e lt (λ s. let d = c.at in
          let f : Some i.End ≡ Some y = sym d ∙ ap (slice_get code) s ∙ is in
          let g : i.End ≡ y = cc in other g) c;
    }

    none : block_of code p ≡ None → AreEnds code ends (p + 1)
    none is = record {
      size = are.size;
      each = λ q e lt c. below q e lt (λ s. let d = c.block in
          let f : Some q ≡ None = sym d ∙ ap (block_of code) s ∙ is in absurd (cc)) c;
    }

    closed : (q r e : ℕ) → block_of code p ≡ Some q → slice_get code p ≡ Some i.End → e < p + 1 →
        Closes code r e → (b : Bool) → nat_lt e p ≡ b → slice_index (slice_set ends q p) r ≡ e
    closed q r e is at lt c true l =
        let less = ltb-true e p l in
        get_or-set_other ends q r p 0
        (λ s. let t = one_end code q e p (subst (λ n. Closes code n e) s c) (record { at = at; block = is }) in
        absurd (omega (arith, less, t))) ∙ are.each r e less c
    closed q r e is at lt c false l =
        let m = ltb-false e p l in
        let s : e ≡ p = omega (arith, m, lt) in
        let d = c.block in
        let f : Some q ≡ Some r = sym is ∙ ap (block_of code) (sym s) ∙ d in
        let t : r ≡ q = cc in
        let g = falling code p in
        ap (slice_index (slice_set ends q p)) t
        ∙ get_or-set_same ends q p 0
        (let k = are.size in let h = slice_get_within code p i.End at in
        let j = start_before code q p (record { at = at; block = is }) in omega (arith, k, h, j)) ∙ sym s

    by : (o : Option ℕ) (y : Instr) → block_of code p ≡ o → slice_get code p ≡ Some y →
        AreEnds code (with_end ends o p y) (p + 1)
    by (Some q) i.End is at = record {
      size = length-set ends q p ∙ are.size;
      each = λ r e lt c. closed q r e is at lt c (nat_lt e p) refl;
    }
    by None i.End is at = none is
    by o y is at = same y at (λ e. absurd (cc))

-- ---- the first bad place

pub bad_here : (code : List Instr) (p : ℕ) (x : Instr) (around : List ℕ) → slice_get code p ≡ Some x →
    is_bad x around ≡ true → bad_block p around (drop p code) ≡ Some p
bad_here code p x around at bad =
    ap (bad_block p around) (drop_at code p x at)
    ∙ ap (λ b. if b then Some p else bad_block (suc p) (opened p x around) (drop (suc p) code)) bad

pub bad_on : (code : List Instr) (p : ℕ) (x : Instr) (around : List ℕ) → slice_get code p ≡ Some x →
    is_bad x around ≡ false →
    bad_block p around (drop p code) ≡ bad_block (p + 1) (opened p x around) (drop (p + 1) code)
bad_on code p x around at good =
    ap (bad_block p around) (drop_at code p x at)
    ∙ ap (λ b. if b then Some p else bad_block (suc p) (opened p x around) (drop (suc p) code)) good
    ∙ ap (λ n. bad_block n (opened p x around) (drop n code)) (let e : suc p ≡ p + 1 = omega arith in e)

-- ---- the first fault

pub fault_here : (version : Version) (code : List Instr) (p : ℕ) (x : Instr) (fault : CodeFault) →
    slice_get code p ≡ Some x → instr_fault version p x ≡ Some fault →
    first_fault version p (drop p code) ≡ Some fault
fault_here version code p x fault at is =
    ap (first_fault version p) (drop_at code p x at)
    ∙ ap (λ f. earlier f (first_fault version (suc p) (drop (suc p) code))) is

pub fault_on : (version : Version) (code : List Instr) (p : ℕ) (x : Instr) →
    slice_get code p ≡ Some x → instr_fault version p x ≡ None →
    first_fault version p (drop p code) ≡ first_fault version (p + 1) (drop (p + 1) code)
fault_on version code p x at is =
    ap (first_fault version p) (drop_at code p x at)
    ∙ ap (λ f. earlier f (first_fault version (suc p) (drop (suc p) code))) is
    ∙ ap (λ n. first_fault version n (drop n code)) (let e : suc p ≡ p + 1 = omega arith in e)

-- ---- instructions without a fault are well formed

some_turn : (version : Version) (p n : ℕ) → instr_fault version p (i.Repeat n) ≡ None → 0 < n
some_turn One p n e = absurd (cc)
some_turn Two p zero e = absurd (cc)
some_turn Two p (suc n) e = omega arith

each_turns : (version : Version) (s p n : ℕ) (code : List Instr) → first_fault version s code ≡ None →
    slice_get code p ≡ Some (i.Repeat n) → 0 < n
each_turns version s p n [] none at = absurd (cc)
each_turns version s p n (x ∷ code) none at =
    by (instr_fault version s x) refl none p at (λ n' k. each_turns version (suc s) k n code n')
  where
    by : (o : Option CodeFault) → instr_fault version s x ≡ o →
        earlier o (first_fault version (suc s) code) ≡ None → (p : ℕ) →
        slice_get (x ∷ code) p ≡ Some (i.Repeat n) →
        (first_fault version (suc s) code ≡ None → (k : ℕ) → slice_get code k ≡ Some (i.Repeat n) → 0 < n) →
        0 < n
    by (Some fault) is none p at rest = absurd (cc)
    by None is none zero at rest =
        let e : x ≡ i.Repeat n = cc in some_turn version s n (ap (instr_fault version s) (sym e) ∙ is)
    by None is none (suc p) at rest = rest none p at

no_block : (o : Option ℕ) → option_map BadBlock o ≡ None → o ≡ None
no_block None e = refl
no_block (Some p) e = absurd (cc)

pub neither : (a b : Option CodeFault) → earlier a b ≡ None → (a ≡ None) × (b ≡ None)
neither None b e = (refl, e)
neither (Some fault) b e = absurd (cc)

pub formed : (version : Version) (code : List Instr) → code_fault version code ≡ None → IsFormed code
formed version code none =
    let both = neither (first_fault version 0 code) (option_map BadBlock (bad_block 0 [] code)) none in
    record {
      blocks = no_block (bad_block 0 [] code) both.1;
      turns = λ p n at. each_turns version 0 p n code both.0 at;
    }

-- and the other way round
turn_of : (p : ℕ) (x : Instr) → ((n : ℕ) → x ≡ i.Repeat n → 0 < n) → instr_fault Two p x ≡ None
turn_of p (i.Repeat zero) some = let lt = some 0 refl in absurd (omega (arith, lt))
turn_of p (i.Repeat (suc n)) some = refl
turn_of p i.Return some = refl
turn_of p x some = refl

turns_of : (s : ℕ) (code : List Instr) → ((p n : ℕ) → slice_get code p ≡ Some (i.Repeat n) → 0 < n) →
    first_fault Two s code ≡ None
turns_of s [] some = refl
turns_of s (x ∷ code) some =
    ap (λ f. earlier f (first_fault Two (suc s) code)) (turn_of s x (λ n e. some 0 n (ap Some e)))
    ∙ turns_of (suc s) code (λ p. some (suc p))

pub formed_code : (code : List Instr) → IsFormed code → code_fault Two code ≡ None
formed_code code formed =
    ap (λ f. earlier f (option_map BadBlock (bad_block 0 [] code))) (turns_of 0 code formed.turns)
    ∙ ap (option_map BadBlock) formed.blocks

-- at the first place
pub starts_none : (code : List Instr) (starts : List (Option ℕ)) → starts ≡ [] → AreStarts code starts 0
starts_none code starts e = record { size = ap length e; each = λ p lt. absurd (omega (arith, lt)) }

pub ends_none : (code : List Instr) (ends : List ℕ) → length ends ≡ length code → AreEnds code ends 0
ends_none code ends e = record { size = e; each = λ q p lt. absurd (omega (arith, lt)) }
