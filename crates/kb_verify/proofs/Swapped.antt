-- Another table of commands that declares the same for the callees.
use Rattle.std.proofs.Common.{◌≡◌, ℕ, suc, ◌+◌, ◌*◌, true, false, List, length, Option, Some, None, refl}
use Rattle.std.proofs.Common.{sym, ap, ◌∙◌, subst, arith}
use Rattle.std.specs.Prelude.{slice_get, nat_le, ◌==◌}
use Rattle.kb_base.specs.Reading.{◌>>=◌, ◌>>◌, unless}
use Rattle.kb_core.specs.declared.arg.Kind.{Kind}
use Rattle.kb_core.specs.Declaration.{Declaration}
use Rattle.kb_code.specs.declared.instr.Instr.{Instr}
use Rattle.kb_code.specs.declared.instr.Instr.TheVariants as i
use Rattle.kb_code.specs.Blocks.{Closes, IsFormed}
use Rattle.kb_code.specs.declared.exits.Exits.{Exits}
use Rattle.kb_code.specs.declared.exits.Exits.TheVariants.{One, Two, Around}
use Rattle.kb_code.specs.Exits.{exits_of, is_exit}
use Rattle.kb_code.proofs.BlockLemmas.{one_end}
use Rattle.kb_code.proofs.Booleans.{or_left, or_right}
use Rattle.kb_code.specs.Handler.{HandlerData}
use Rattle.kb_code.specs.Reachable.{Reachable, first, onward}
use Rattle.kb_verify.specs.declared.fault.Defect.TheVariants as defect
use Rattle.kb_verify.specs.Callable.{Commands, declaration_at}
use Rattle.kb_verify.specs.Check.{check, leads, without_args}
use Rattle.kb_verify.specs.Shapes.{HasShapes}
use Rattle.kb_verify.specs.Paths.{cost, budget_in, Steps, Nothing, Choice, Turns, Path, returns, ends, goes_on}
use Rattle.kb_verify.specs.Paths.{falls, jumps, repeats}
use Rattle.kb_verify.specs.Accepted.{IsAccepted, IsSwapped}
use Rattle.kb_verify.proofs.Calls.{found_callee, none_undeclared}
use Rattle.kb_verify.proofs.Arrivals.{follows_at, block_at}
use Rattle.kb_verify.proofs.Edges.{equal}

module _ (commands other : Commands) (h : HandlerData) (has : HasShapes commands h) (swapped : IsSwapped commands other h) where
  -- a reachable call has the same declaration in both tables
  alike_at : (p n : ℕ) → Reachable h.code p → slice_get h.code p ≡ Some (i.Call n) →
      declaration_at other h n ≡ declaration_at commands h n
  alike_at p n reached at = by (declaration_at commands h n) refl where
    by : (o : Option Declaration) → declaration_at commands h n ≡ o → declaration_at other h n ≡ o
    by (Some d) e = swapped p n d (found_callee commands h p n d reached at e)
    by None e = absurd (none_undeclared commands h has p n reached at e)

  abbrev IsAlike : ℕ → Instr → Type 0
  IsAlike p instr = ((ks : List Kind) → check other h p ks instr ≡ check commands h p ks instr) × (cost other h instr ≡ cost commands h instr)

  alike : (p : ℕ) (instr : Instr) → Reachable h.code p → slice_get h.code p ≡ Some instr → IsAlike p instr
  alike p (i.Call n) reached at =
      let same = alike_at p n reached at in (
        λ ks. ap (λ d. without_args d ks >>= (λ after. leads h.code p (i.Call n) >> unless defect.TooHigh (nat_le (length after) 64) after)) same,
        ap (λ d. 1 + budget_in d) same,
      )
  alike p i.Return reached at = (λ ks. refl, refl)
  alike p (i.Text n) reached at = (λ ks. refl, refl)
  alike p (i.Num n) reached at = (λ ks. refl, refl)
  alike p (i.Truth b) reached at = (λ ks. refl, refl)
  alike p (i.Arg n) reached at = (λ ks. refl, refl)
  alike p i.Drop reached at = (λ ks. refl, refl)
  alike p i.Dup reached at = (λ ks. refl, refl)
  alike p i.Swap reached at = (λ ks. refl, refl)
  alike p i.Add reached at = (λ ks. refl, refl)
  alike p i.Sub reached at = (λ ks. refl, refl)
  alike p i.Less reached at = (λ ks. refl, refl)
  alike p i.Same reached at = (λ ks. refl, refl)
  alike p i.Not reached at = (λ ks. refl, refl)
  alike p i.Join reached at = (λ ks. refl, refl)
  alike p i.Show reached at = (λ ks. refl, refl)
  alike p i.Size reached at = (λ ks. refl, refl)
  alike p i.IsTrue reached at = (λ ks. refl, refl)
  alike p i.Number reached at = (λ ks. refl, refl)
  alike p (i.Jump to) reached at = (λ ks. refl, refl)
  alike p (i.JumpIfFalse to) reached at = (λ ks. refl, refl)
  alike p (i.Context n) reached at = (λ ks. refl, refl)
  alike p i.Before reached at = (λ ks. refl, refl)
  alike p i.After reached at = (λ ks. refl, refl)
  alike p (i.Repeat n) reached at = (λ ks. refl, refl)
  alike p i.End reached at = (λ ks. refl, refl)

  shapes_too : HasShapes other h
  shapes_too = (
    has.0,
    record {
      start = has.1.start;
      each = λ p instr lt reached at.
          let e = has.1.each p instr lt reached at in
          record {
            after = e.after;
            is_right = (alike p instr reached at).0 (has.0 p) ∙ e.is_right;
            flows = e.flows;
            turns = e.turns;
          };
    },
  )

  module _ (formed : IsFormed h.code) where
    goes : (p q : ℕ) (instr : Instr) (exits : Exits) → Reachable h.code p → slice_get h.code p ≡ Some instr →
        exits_of (suc p) instr ≡ exits → is_exit exits q ≡ true → Reachable h.code q
    goes p q instr exits reached at e is =
        onward reached (follows_at commands h formed has.0 has.1 p q instr reached at (ap (λ x. is_exit x q) e ∙ is))

    -- the place after a block is reachable
    past : (p n q e : ℕ) → Reachable h.code p → (instr : Instr) → slice_get h.code p ≡ Some instr →
        exits_of (suc p) instr ≡ Around n q → Closes h.code p e → Reachable h.code (suc e)
    past p n q e reached instr at is closes =
        let b = block_at commands h formed has.0 has.1 p n q instr reached at is in
        let same : b.end ≡ e = one_end h.code p b.end e b.closes closes in
        subst (Reachable h.code) (omega (arith, same)) b.past

    -- a path by one table is a path by the other
    path_too : (p : ℕ) (path : Steps) (c : ℕ) → Reachable h.code p → Path other h p path c →
        Path commands h p path c
    path_too p path c reached (returns instr at e) =
        subst (Path commands h p Nothing) (sym (alike p instr reached at).1) (returns instr at e)
    path_too p path c reached (ends instr at e) = ends instr at e
    path_too p path c reached (goes_on {q = q} {c = d} {steps = steps} instr at e lt more) =
        subst (λ k. Path commands h p steps (k + d)) (sym (alike p instr reached at).1)
        (goes_on instr at e lt (path_too q steps d (goes p q instr (One q) reached at e (equal q)) more))
    path_too p path c reached (falls {q = q} {r = r} {c = d} {steps = steps} instr at e lt more) =
        subst (λ k. Path commands h p (Choice false steps) (k + d)) (sym (alike p instr reached at).1)
        (falls instr at e lt (path_too q steps d
        (goes p q instr (Two q r) reached at e (or_left (q == q) (q == r) (equal q))) more))
    path_too p path c reached (jumps {q = q} {r = r} {c = d} {steps = steps} instr at e lt more) =
        subst (λ k. Path commands h p (Choice true steps) (k + d)) (sym (alike p instr reached at).1)
        (jumps instr at e lt (path_too r steps d
        (goes p r instr (Two q r) reached at e (or_right (r == q) (r == r) (equal r))) more))
    path_too p path c reached (repeats {q = q} {n = n} {e = e} {c = a} {d = d} {turn = turn} {rest = rest} instr at is lt closes inner more) =
        subst (λ k. Path commands h p (Turns turn rest) (k + (n * (a + 1) + d))) (sym (alike p instr reached at).1)
        (repeats instr at is lt closes
        (path_too q turn a (goes p q instr (Around n q) reached at is (equal q)) inner)
        (path_too (suc e) rest d (past p n q e reached instr at is closes) more))

pub accepted_too : (commands other : Commands) (h : HandlerData) → IsAccepted commands h →
    IsSwapped commands other h → IsAccepted other h
accepted_too commands other h a swapped = record {
  formed = a.formed;
  some_code = a.some_code;
  shapes = shapes_too commands other h a.shapes swapped;
  within_budget = λ path c is. a.within_budget path c (path_too commands other h a.shapes swapped a.formed 0 path c (first a.some_code) is);
  within_depth = λ place index d is.
      let same = alike_at commands other h a.shapes swapped place index is.calls.reached is.calls.at in
      a.within_depth place index d (record { calls = is.calls; declares = sym same ∙ is.declares });
}
