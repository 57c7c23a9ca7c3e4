-- Shapes, and operands that fit them.
use Rattle.std.proofs.Common.{◌≡◌, ℕ, zero, suc, Bool, true, false, List, [], ◌∷◌, ◌++◌, length, take, drop}
use Rattle.std.proofs.Common.{Some, refl, sym, ap, subst, if◌then◌else◌}
use Rattle.std.specs.Prelude.{slice_get, reverse, Ok, Err}
use Rattle.std.proofs.lemmas.List.{reverse-append}
use Rattle.kb_core.specs.declared.arg.Arg.{Arg}
use Rattle.kb_core.specs.declared.arg.Kind.{Kind}
use Rattle.kb_core.specs.declared.arg.Kind.TheVariants as kind
use Rattle.kb_core.specs.declared.parameter.Param.{Param}
use Rattle.kb_core.specs.Arg.{is_of}
use Rattle.kb_core.specs.Signature.{fits}
use Rattle.kb_verify.specs.declared.fault.Defect.{Defect}
use Rattle.kb_verify.specs.Check.{takes, takes_each, Checked}
use Rattle.kb_soundness.proofs.Tests.{and_true, true_and}

-- one operand for each kind, and of that kind
abbrev pub Fit : List Kind → List Arg → Type 0
Fit [] [] = Unit {0}
Fit [] (v ∷ vs) = ⊥
Fit (k ∷ ks) [] = ⊥
Fit (k ∷ ks) (v ∷ vs) = (is_of k v ≡ true) × Fit ks vs

-- the result of a test that succeeds
pub if_ok : (b : Bool) (x : Checked) (wrong : Defect) (after : List Kind) →
    (if b then x else Err wrong) ≡ Ok after →
    (b ≡ true) × (x ≡ Ok after)
if_ok true x wrong after e = (refl, e)
if_ok false x wrong after e = absurd (cc)

pub unless_ok : (b : Bool) (x : Checked) (wrong : Defect) (after : List Kind) →
    (if b then Err wrong else x) ≡ Ok after →
    (b ≡ false) × (x ≡ Ok after)
unless_ok false x wrong after e = (refl, e)
unless_ok true x wrong after e = absurd (cc)

abbrev pub right : List Kind → Checked
right ks = Ok ks

pub ok_is : (ks ls : List Kind) → right ks ≡ right ls → ks ≡ ls
ok_is ks ls e = cc

pub fit_length : (ks : List Kind) (vs : List Arg) → Fit ks vs → length ks ≡ length vs
fit_length [] [] f = refl
fit_length [] (v ∷ vs) f = absurd f
fit_length (k ∷ ks) [] f = absurd f
fit_length (k ∷ ks) (v ∷ vs) f = ap suc (fit_length ks vs f.1)

fit_append : (ks ls : List Kind) (vs us : List Arg) → Fit ks vs → Fit ls us → Fit (ks ++ ls) (vs ++ us)
fit_append [] ls [] us f g = g
fit_append [] ls (v ∷ vs) us f g = absurd f
fit_append (k ∷ ks) ls [] us f g = absurd f
fit_append (k ∷ ks) ls (v ∷ vs) us f g = (f.0, fit_append ks ls vs us f.1 g)

pub fit_take : (n : ℕ) (ks : List Kind) (vs : List Arg) → Fit ks vs → Fit (take n ks) (take n vs)
fit_take zero ks vs f = tt
fit_take (suc n) [] [] f = tt
fit_take (suc n) [] (v ∷ vs) f = absurd f
fit_take (suc n) (k ∷ ks) [] f = absurd f
fit_take (suc n) (k ∷ ks) (v ∷ vs) f = (f.0, fit_take n ks vs f.1)

pub fit_drop : (n : ℕ) (ks : List Kind) (vs : List Arg) → Fit ks vs → Fit (drop n ks) (drop n vs)
fit_drop zero ks vs f = f
fit_drop (suc n) [] [] f = tt
fit_drop (suc n) [] (v ∷ vs) f = absurd f
fit_drop (suc n) (k ∷ ks) [] f = absurd f
fit_drop (suc n) (k ∷ ks) (v ∷ vs) f = fit_drop n ks vs f.1

reverse_cons : {X : Type 0} (x : X) (xs : List X) → reverse (x ∷ xs) ≡ reverse xs ++ x ∷ []
reverse_cons x xs = reverse-append (x ∷ []) xs

pub fit_reverse : (ks : List Kind) (vs : List Arg) → Fit ks vs → Fit (reverse ks) (reverse vs)
fit_reverse [] [] f = tt
fit_reverse [] (v ∷ vs) f = absurd f
fit_reverse (k ∷ ks) [] f = absurd f
fit_reverse (k ∷ ks) (v ∷ vs) f =
    subst (λ ls. Fit ls (reverse (v ∷ vs))) (sym (reverse_cons k ks))
    (subst (Fit (reverse ks ++ k ∷ [])) (sym (reverse_cons v vs))
    (fit_append (reverse ks) (k ∷ []) (reverse vs) (v ∷ []) (fit_reverse ks vs f.1) (f.0, tt)))

-- a parameter that accepts a kind accepts each value of it
pub takes_value : (p k : Kind) (v : Arg) → takes p k ≡ true → is_of k v ≡ true → is_of p v ≡ true
takes_value kind.Any k v t e = refl
takes_value kind.Text kind.Text v t e = e
takes_value kind.Number kind.Number v t e = e
takes_value kind.Truth kind.Truth v t e = e
takes_value kind.Text kind.Number v t e = absurd (cc)
takes_value kind.Text kind.Truth v t e = absurd (cc)
takes_value kind.Text kind.Any v t e = absurd (cc)
takes_value kind.Number kind.Text v t e = absurd (cc)
takes_value kind.Number kind.Truth v t e = absurd (cc)
takes_value kind.Number kind.Any v t e = absurd (cc)
takes_value kind.Truth kind.Text v t e = absurd (cc)
takes_value kind.Truth kind.Number v t e = absurd (cc)
takes_value kind.Truth kind.Any v t e = absurd (cc)

-- operands that fit a shape fit parameters that accept it
pub takes_fit : (ps : List Param) (ks : List Kind) (vs : List Arg) → takes_each ps ks ≡ true → Fit ks vs →
    fits ps vs ≡ true
takes_fit [] [] [] t f = refl
takes_fit [] [] (v ∷ vs) t f = absurd f
takes_fit [] (k ∷ ks) vs t f = absurd (cc)
takes_fit (p ∷ ps) [] vs t f = absurd (cc)
takes_fit (p ∷ ps) (k ∷ ks) [] t f = absurd f
takes_fit (p ∷ ps) (k ∷ ks) (v ∷ vs) t f =
    let b = and_true (takes p.kind k) (takes_each ps ks) t in
    true_and (is_of p.kind v) (fits ps vs) (takes_value p.kind k v b.0 f.0) (takes_fit ps ks vs b.1 f.1)

-- each parameter has an argument
pub argument_at : (ps : List Param) (vs : List Arg) (n : ℕ) (p : Param) → fits ps vs ≡ true →
    slice_get ps n ≡ Some p → (v : Arg) × (slice_get vs n ≡ Some v) × (is_of p.kind v ≡ true)
argument_at [] vs n p f e = absurd (cc)
argument_at (q ∷ ps) [] n p f e = absurd (cc)
argument_at (q ∷ ps) (v ∷ vs) zero p f e =
    let same : q ≡ p = cc in
    (v, refl, subst (λ x. is_of x.kind v ≡ true) same (and_true (is_of q.kind v) (fits ps vs) f).0)
argument_at (q ∷ ps) (v ∷ vs) (suc n) p f e =
    argument_at ps vs n p (and_true (is_of q.kind v) (fits ps vs) f).1 e
