-- Marks of the places to which jumps lead.
use Rattle.std.proofs.Common.{◌≡◌, refl, sym, ap, ◌∙◌, ℕ, zero, suc, ◌+◌, ◌<◌, ◌≤◌, List, [], ◌∷◌, length, drop, get_or, set}
use Rattle.std.proofs.Common.{Bool, true, false, ◌||◌, arith}
use Rattle.std.specs.Prelude.{◌==◌, replicate}
use Rattle.std.proofs.lemmas.Bool.{ne_eqb}
use Rattle.std.proofs.lemmas.Bool.Decides.{Decides-eqb}
use Rattle.std.proofs.lemmas.List.{get_or-set_same, get_or-set_other, drop_more, drop_all}
use native.Mathlib.Decide.{ℕ_discrete}
use Rattle.kb_code.specs.declared.instr.Instr.{Instr}
use Rattle.kb_code.specs.declared.instr.Instr.TheVariants as i
use Rattle.kb_assembly.specs.Targets.{leads_to, is_target}

pub one_set : (marks : List Bool) (to place : ℕ) → to < length marks →
    get_or (set marks to true) place false ≡ (to == place) || get_or marks place false
one_set marks to place within = elim (ℕ_discrete place to) [
  | yes d ↦ ap (λ p. get_or (set marks to true) p false) d ∙ get_or-set_same marks to true false within
      ∙ sym (ap (λ b. b || get_or marks place false) ((Decides-eqb to place).1 (sym d)))
  | no d ↦ get_or-set_other marks to place true false d
      ∙ sym (ap (λ b. b || get_or marks place false) (ne_eqb to place (λ e. d (sym e))))
]

pub none_set : (marks : List Bool) (to place : ℕ) → length marks ≤ to → place < length marks →
    get_or marks place false ≡ (to == place) || get_or marks place false
none_set marks to place past within =
    sym (ap (λ b. b || get_or marks place false) (ne_eqb to place (λ e. omega (arith, e, past, within))))

-- what is left, and the marks so far
abbrev pub Marked : List Instr → List Bool → ℕ → Type 0
Marked code marks at = (place : ℕ) → place ≤ length code →
    is_target (drop at code) place || get_or marks place false ≡ is_target code place

or_turned : (a b c : Bool) → b || (a || c) ≡ (a || b) || c
or_turned true true c = refl
or_turned true false c = refl
or_turned false b c = refl

pub one_marked : (code : List Instr) (old new : List Bool) (at : ℕ) (instr : Instr) → at < length code →
    instr ≡ get_or code at i.Return → length old ≡ length code + 1 →
    ((place : ℕ) → place < length old → get_or new place false ≡ leads_to place instr || get_or old place false) →
    Marked code old at → Marked code new (at + 1)
one_marked code old new at instr less is size each marked = λ place le.
    let rest = is_target (drop (at + 1) code) place in
    ap (λ b. rest || b) (each place (omega (arith, le, size)))
    ∙ or_turned (leads_to place instr) rest (get_or old place false)
    ∙ ap (λ x. (leads_to place x || rest) || get_or old place false) is
    ∙ sym (ap (λ xs. is_target xs place || get_or old place false) (drop_more code at i.Return less))
    ∙ marked place le

no_mark : (n place : ℕ) → get_or (replicate n false) place false ≡ false
no_mark zero place = refl
no_mark (suc n) zero = refl
no_mark (suc n) (suc place) = no_mark n place

or_false : (a : Bool) → a || false ≡ a
or_false true = refl
or_false false = refl

pub none_marked : (code : List Instr) (marks : List Bool) (n : ℕ) → marks ≡ replicate n false → Marked code marks 0
none_marked code marks n e = λ place le.
    ap (λ ms. is_target code place || get_or ms place false) e
    ∙ ap (λ b. is_target code place || b) (no_mark n place) ∙ or_false (is_target code place)

pub all_marked : (code : List Instr) (marks : List Bool) (at : ℕ) → length code ≤ at → Marked code marks at →
    (place : ℕ) → place ≤ length code → get_or marks place false ≡ is_target code place
all_marked code marks at past marked = λ place le.
    ap (λ xs. is_target xs place || get_or marks place false) (sym (drop_all at code past)) ∙ marked place le
