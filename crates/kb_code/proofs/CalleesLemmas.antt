-- Collecting callees: one more instruction.
use Rattle.std.proofs.Common.{◌≡◌, refl, ap, sym, ◌∙◌, ℕ, zero, suc, ◌+◌, ◌<◌, ◌≤◌, Bool, true, false, List}
use Rattle.std.proofs.Common.{[], ◌∷◌, ◌++◌, length, drop, get_or, drop-cons, append_assoc, arith}
use Rattle.std.specs.Prelude.{◌||◌, ◌&&◌, ◌==◌, if◌then◌else◌}
use Rattle.kb_code.specs.declared.instr.Instr.{Instr}
use Rattle.kb_code.specs.declared.instr.Instr.TheVariants.{Return}
use Rattle.std.proofs.lemmas.List.{length-drop}
use Rattle.kb_code.specs.Blocks.{is_inside}
use Rattle.kb_code.specs.Callees.{called, callees_from}
use Rattle.kb_code.specs.declared.exits.Exits.{Exits}
use Rattle.kb_code.specs.Exits.{exits_of, is_exit}

abbrev pub marked : List Bool → ℕ → Bool
marked bs q = get_or bs q false

-- an exit that is no place of another block
abbrev pub leads_to : List Instr → ℕ → Exits → ℕ → Bool
leads_to all place exits q = is_exit exits q && is_inside all place q

-- the places that are reached, with the exits of an instruction
abbrev beyond : List Instr → ℕ → (ℕ → Bool) → Instr → ℕ → Bool
beyond all place f x q = f q || leads_to all place (exits_of (suc place) x) q

-- what is found rests on the places from here to the end of the code alone
same_from : (all : List Instr) (calls place : ℕ) (f g : ℕ → Bool) (code : List Instr) →
    ((q : ℕ) → place ≤ q → q < place + length code → f q ≡ g q) →
    callees_from all calls place f code ≡ callees_from all calls place g code
same_from all calls place f g [] same = refl
same_from all calls place f g (x ∷ code) same =
    ap (λ b. if b then called calls x ++ callees_from all calls (suc place) (beyond all place f x) code
    else callees_from all calls (suc place) f code) (same place (omega arith) (omega arith))
    ∙ by (g place)
    (same_from all calls (suc place) _ _ code
    (λ q from to. ap (λ b. b || leads_to all place (exits_of (suc place) x) q)
    (same q (omega (arith, from)) (omega (arith, to)))))
    (same_from all calls (suc place) f g code (λ q from to. same q (omega (arith, from)) (omega (arith, to))))
  where
    by : (b : Bool) →
        callees_from all calls (suc place) (beyond all place f x) code
        ≡ callees_from all calls (suc place) (beyond all place g x) code →
        callees_from all calls (suc place) f code ≡ callees_from all calls (suc place) g code →
        (if b then called calls x ++ callees_from all calls (suc place) (beyond all place f x) code
        else callees_from all calls (suc place) f code)
        ≡ (if b then called calls x ++ callees_from all calls (suc place) (beyond all place g x) code
        else callees_from all calls (suc place) g code)
    by true there here = ap (λ ns. called calls x ++ ns) there
    by false there here = here

when : {b : Bool} (x y : List ℕ) → b ≡ true → (if b then x else y) ≡ x
when x y is = ap (λ (b : Bool). if b then x else y) is

otherwise : {b : Bool} (x y : List ℕ) → b ≡ false → (if b then x else y) ≡ y
otherwise x y is = ap (λ (b : Bool). if b then x else y) is

pub begun : (all : List Instr) (calls : ℕ) (bs : List Bool) (code : List Instr) → length bs ≡ length code →
    ((q : ℕ) → q < length code → marked bs q ≡ (q == 0)) →
    callees_from all calls 0 (λ q. q == 0) code ≡ callees_from all calls 0 (marked bs) code
begun all calls bs code size first =
    same_from all calls 0 _ _ code (λ q from to. sym (first q (omega (arith, to))))

-- what stands at a place is so by any default
pub mark_is : (bs : List Bool) (place : ℕ) (b c : Bool) → place < length bs → b ≡ get_or bs place b → b ≡ c →
    marked bs place ≡ c
mark_is [] place b c within is same = absurd (omega (arith, within))
mark_is (x ∷ bs) zero b c within is same = sym is ∙ same
mark_is (x ∷ bs) (suc place) b c within is same = mark_is bs place b c (omega (arith, within)) is same

-- the instruction at a place of code
abbrev pub instr_in : List Instr → ℕ → Instr
instr_in code place = get_or code place Return

-- what is found from a place on, by its instruction
from_place : (all : List Instr) (calls place : ℕ) (f : ℕ → Bool) (code : List Instr) → place < length code →
    callees_from all calls place f (drop place code)
    ≡ (if f place then called calls (instr_in code place) ++ callees_from all calls (suc place)
    (beyond all place f (instr_in code place)) (drop (suc place) code)
    else callees_from all calls (suc place) f (drop (suc place) code))
from_place all calls place f code within = ap (callees_from all calls place f) (drop-cons code place Return within)

next : (place : ℕ) → place + 1 ≡ suc place
next place = omega arith

pub looked : (all : List Instr) (calls place : ℕ) (bs cs : List Bool) (code : List Instr) (done made : List ℕ)
    (exits : Exits) → place < length code → length bs ≡ length code → marked bs place ≡ true →
    exits ≡ exits_of (place + 1) (instr_in code place) →
    ((q : ℕ) → q < length bs → marked cs q ≡ (marked bs q || leads_to all place exits q)) →
    made ≡ done ++ called calls (instr_in code place) →
    done ++ callees_from all calls place (marked bs) (drop place code)
    ≡ made ++ callees_from all calls (place + 1) (marked cs) (drop (place + 1) code)
looked all calls place bs cs code done made exits within size here exits_are marks made_is =
    ap (λ ns. done ++ ns) (from_place all calls place (marked bs) code within
    ∙ when _ _ here
    ∙ ap (λ ns. called calls (instr_in code place) ++ ns)
    (same_from all calls (suc place) _ (marked cs) (drop (suc place) code)
    (λ q from to. sym (marks q (omega (arith, to, size, within, length-drop (suc place) code))
    ∙ ap (λ e. marked bs q || leads_to all place e q)
    (exits_are ∙ ap (λ n. exits_of n (instr_in code place)) (next place))))))
    ∙ sym (append_assoc done (called calls (instr_in code place)) _)
    ∙ ap (λ ns. ns ++ callees_from all calls (suc place) (marked cs) (drop (suc place) code)) (sym made_is)
    ∙ ap (λ n. made ++ callees_from all calls n (marked cs) (drop n code)) (sym (next place))

pub passed : (all : List Instr) (calls place : ℕ) (bs : List Bool) (code : List Instr) (done : List ℕ) →
    place < length code → marked bs place ≡ false →
    done ++ callees_from all calls place (marked bs) (drop place code)
    ≡ done ++ callees_from all calls (place + 1) (marked bs) (drop (place + 1) code)
passed all calls place bs code done within here =
    ap (λ ns. done ++ ns) (from_place all calls place (marked bs) code within ∙ otherwise _ _ here
    ∙ ap (λ n. callees_from all calls n (marked bs) (drop n code)) (sym (next place)))
