-- The place after a `Repeat` is reached where a place of its block is.
use Rattle.std.proofs.Common.{◌≡◌, ℕ, suc, List, [], ◌∷◌, sym, ap, ◌∙◌, subst, ⊎_elim}
use Rattle.std.specs.Prelude.{◌==◌}
use Rattle.std.proofs.lemmas.Bool.Decides.{Decides-eqb}
use Rattle.kb_code.specs.declared.instr.Instr.{Instr}
use Rattle.kb_code.specs.declared.instr.Instr.TheVariants as i
use Rattle.kb_code.specs.Reachable.{EndAddsNone}
use Rattle.kb_code.specs.Blocks.{opened, around_at, same_block}
use Rattle.kb_code.specs.Reachable.{Reachable, first, onward}
use Rattle.kb_code.proofs.BlockLemmas.{around_first, around_next, same_around, closed_around}
use Rattle.kb_code.proofs.Booleans.{or_elim}

abbrev Entered : List Instr → List ℕ → Type 0
Entered code [] = Unit {0}
Entered code (q ∷ around) = Reachable code (suc q) × Entered code around

entered_next : (code : List Instr) (p : ℕ) (x : Instr) (around : List ℕ) → Reachable code (suc p) →
    Entered code around → Entered code (opened p x around)
entered_next code p (i.Repeat n) around r e = (r, e)
entered_next code p i.End [] r e = e
entered_next code p i.End (q ∷ around) r e = e.1
entered_next code p x around r e = e

entered : (code : List Instr) (p : ℕ) → Reachable code p → Entered code (around_at code p)
entered code p (first some) = subst (Entered code) (sym (around_first code)) tt
entered code q (onward {p = p} r f) =
    let e = entered code p r in
    ⊎_elim
    (λ next. let s : q ≡ suc p = (Decides-eqb q (suc p)).0 next in
    subst (Entered code) (sym (ap (around_at code) s ∙ around_next code p f.instr f.at))
    (entered_next code p f.instr (around_at code p) (subst (Reachable code) s (onward r f)) e))
    (λ same. subst (Entered code) (same_around code p q same) e)
    (or_elim (q == suc p) (same_block code p q) f.inside)

pub end_adds_none : EndAddsNone
end_adds_none code q e c r =
    let a = closed_around code q e c in
    (let en = entered code e r in let m : Entered code (q ∷ a.0) = subst (Entered code) a.1 en in m).0
