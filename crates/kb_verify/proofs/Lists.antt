-- Parameters against arguments, from the last argument on, which is on top.
use Rattle.std.proofs.Common.{◌≡◌, ◌<◌, ◌≤◌, ℕ, suc, true, false, List, [], ◌∷◌, ◌++◌, length, take}
use Rattle.std.proofs.Common.{drop, get_or}
use Rattle.std.proofs.Common.{Ok, Err, Some, sym, ap, ◌∙◌, arith}
use Rattle.std.specs.Prelude.{reverse, ◌&&◌, if◌then◌else◌}
use Rattle.std.proofs.lemmas.Bool.{le-ltb}
use Rattle.std.proofs.lemmas.List.{reverse-append, length-reverse, length-take-le}
use Rattle.std.proofs.Math.Bool.{and_assoc, and-true, and-false}
use Rattle.std.proofs.Math.Seq.{take-suc}
use Rattle.kb_core.specs.declared.arg.Kind.{Kind}
use Rattle.kb_core.specs.declared.parameter.Param.{Param}
use Rattle.kb_core.specs.Declaration.{Declaration}
use Rattle.kb_verify.specs.declared.fault.Defect.TheVariants as defect
use Rattle.kb_verify.specs.Check.{takes, takes_each, without_args}

one_behind : (ps : List Param) (ks : List Kind) (p : Param) (k : Kind) → length ps ≡ length ks →
    takes_each (ps ++ p ∷ []) (ks ++ k ∷ []) ≡ (takes_each ps ks && takes p.kind k)
one_behind [] [] p k e = and-true (takes p.kind k)
one_behind [] (j ∷ ks) p k e = absurd (omega (arith, e))
one_behind (q ∷ ps) [] p k e = absurd (omega (arith, e))
one_behind (q ∷ ps) (j ∷ ks) p k e =
    ap (λ b. takes q.kind j && b) (one_behind ps ks p k (omega (arith, e)))
    ∙ sym (and_assoc (takes q.kind j) (takes_each ps ks) (takes p.kind k))

-- the last parameter accepts the kind on top, and those before it the rest
last_takes : (ps : List Param) (i : ℕ) (p : Param) (k : Kind) (rest : List Kind) → i < length ps →
    i ≤ length rest → takes_each (take (suc i) ps) (reverse (take (suc i) (k ∷ rest)))
    ≡ (takes_each (take i ps) (reverse (take i rest)) && takes (get_or ps i p).kind k)
last_takes ps i p k rest lt le =
    let few : length (take i ps) ≡ length (reverse (take i rest)) =
    length-take-le i ps (omega (arith, lt)) ∙ sym (length-reverse (take i rest) ∙ length-take-le i rest le) in
    ap (λ xs. takes_each xs (reverse (k ∷ take i rest))) (take-suc ps i p lt)
    ∙ ap (takes_each (take i ps ++ get_or ps i p ∷ [])) (reverse-append (k ∷ []) (take i rest))
    ∙ one_behind (take i ps) (reverse (take i rest)) (get_or ps i p) k few

-- if one parameter rejects its argument, the whole list rejects the arguments
pub takes_none : (ps : List Param) (i : ℕ) (p : Param) (k : Kind) (ks rest : List Kind) → i < length ps →
    i ≤ length rest → takes (get_or ps i p).kind k ≡ false → ks ≡ k ∷ rest →
    takes_each (take (suc i) ps) (reverse (take (suc i) ks)) ≡ false
takes_none ps i p k ks rest lt le wrong is =
    ap (λ xs. takes_each (take (suc i) ps) (reverse (take (suc i) xs))) is ∙ last_takes ps i p k rest lt le
    ∙ ap (λ b. takes_each (take i ps) (reverse (take i rest)) && b) wrong ∙ and-false _

-- if one parameter accepts its argument, the result is that of the parameters before it
pub takes_rest : (ps : List Param) (i : ℕ) (p : Param) (k : Kind) (ks rest : List Kind) → i < length ps →
    i ≤ length rest → takes (get_or ps i p).kind k ≡ true → ks ≡ k ∷ rest →
    takes_each (take (suc i) ps) (reverse (take (suc i) ks)) ≡ takes_each (take i ps) (reverse (take i rest))
takes_rest ps i p k ks rest lt le right is =
    ap (λ xs. takes_each (take (suc i) ps) (reverse (take (suc i) xs))) is ∙ last_takes ps i p k rest lt le
    ∙ ap (λ b. takes_each (take i ps) (reverse (take i rest)) && b) right ∙ and-true _

-- the result where one argument is wrong
pub wrong_argument : (d : Declaration) (ks : List Kind) → length d.params ≤ length ks →
    takes_each d.params (reverse (take (length d.params) ks)) ≡ false →
    Err defect.WrongArgument ≡ without_args (Some d) ks
wrong_argument d ks le wrong =
    sym (ap (λ b. if b then Err defect.MissingOperand else if takes_each d.params (reverse (take (length d.params) ks)) then Ok (drop (length d.params) ks) else Err defect.WrongArgument) (le-ltb (length ks) (length d.params) le)
    ∙ ap (λ b. if b then Ok (drop (length d.params) ks) else Err defect.WrongArgument) wrong)
