-- Places of code.
use Rattle.std.proofs.Common.{◌≡◌, ◌<◌, ℕ, suc, true, List, length, get_or, Some, refl, sym, ap, ◌∙◌}
use Rattle.std.specs.Prelude.{◌==◌, slice_get}
use Rattle.std.proofs.lemmas.Option.{slice_get-get_or}
use Rattle.std.proofs.lemmas.Bool.Decides.{Decides-eqb}
use Rattle.kb_code.specs.declared.instr.Instr.{Instr}
use Rattle.kb_code.specs.declared.instr.Instr.TheVariants.{Return}
use Rattle.kb_code.specs.Exits.{exits_of, is_exit}
use Rattle.kb_code.specs.Reachable.{Follows, Reachable, first, onward}

pub equal : (p : ℕ) → (p == p) ≡ true
equal p = (Decides-eqb p p).1 refl

-- a place that follows is an exit of the instruction
pub exit_of : (code : List Instr) (p q : ℕ) (x : Instr) (f : Follows code p q) → f.instr ≡ x →
    is_exit (exits_of (suc p) x) q ≡ true
exit_of code p q x f same = ap (λ j. is_exit (exits_of (suc p) j) q) (sym same) ∙ f.exit

pub reach_within : (code : List Instr) (p : ℕ) → Reachable code p → p < length code
reach_within code p (first lt) = lt
reach_within code p (onward r f) = f.within

-- the instruction that was read is the one at its place
pub at_place : (code read : List Instr) (p : ℕ) → read ≡ code → p < length code →
    slice_get code p ≡ Some (get_or read p Return)
at_place code read p same lt = slice_get-get_or code p Return lt ∙ ap (λ xs. Some (get_or xs p Return)) (sym same)
