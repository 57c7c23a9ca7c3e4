-- One pass over the instructions finds the callees.
use Rattle.std.proofs.Common.{◌≡◌, refl, ap, sym, subst, ◌∙◌, ℕ, zero, suc, ◌+◌, ◌<◌, ◌≤◌, Bool, true, false}
use Rattle.std.proofs.Common.{List, [], ◌∷◌, ◌++◌, length, append_assoc, append-nil, arith}
use Rattle.std.specs.Prelude.{◌||◌, ◌&&◌, ◌==◌, if◌then◌else◌, nat_lt, Option, Some, None, slice_get}
use Rattle.std.proofs.lemmas.Bool.{ltb-true, ltb-false, false≢true}
use Rattle.std.proofs.lemmas.Bool.Decides.{Decides-eqb}
use Rattle.kb_code.specs.declared.instr.Instr.{Instr}
use Rattle.kb_code.specs.declared.instr.Instr.TheVariants.{Call}
use Rattle.kb_code.specs.Blocks.{is_inside}
use Rattle.kb_code.specs.Callees.{called, callees_from, callees_of}
use Rattle.kb_code.specs.Exits.{exits_of, is_exit}
use Rattle.kb_code.specs.Handler.{HandlerData}
use Rattle.kb_code.specs.Reachable as reach
use Rattle.kb_code.specs.Reachable.{Follows, Reachable, Calls, CalleesBelow}

-- a place is reached from a place below another
data Came (code : List Instr) (bound q : ℕ) : Type 0 where
  at_first : q ≡ 0 → Came code bound q
  behind : (r : ℕ) → r < bound → Reachable code r → Follows code r q → Came code bound q

came : (code : List Instr) (q : ℕ) → Reachable code q → Came code q q
came code q (reach.first some) = at_first refl
came code q (reach.onward {p} from follows) = behind p follows.later from follows

or_right : (a b : Bool) → b ≡ true → (a || b) ≡ true
or_right true b is = refl
or_right false b is = is

or_left : (a b : Bool) → a ≡ true → (a || b) ≡ true
or_left true b is = refl
or_left false b is = absurd (false≢true is)

and_true : (a b : Bool) → (a && b) ≡ true → (a ≡ true) × (b ≡ true)
and_true true b e = (refl, e)
and_true false b e = absurd (false≢true e)

true_and : (a b : Bool) → a ≡ true → b ≡ true → (a && b) ≡ true
true_and a b e f = ap (λ x. x && b) e ∙ f

abbrev or_other : Instr → Option Instr → Instr
or_other x None = x
or_other x (Some y) = y

some_inj : (x y : Instr) → Some x ≡ Some y → x ≡ y
some_inj x y e = ap (or_other x) e

abbrev is_call : Instr → Bool
is_call (Call n) = true
is_call _ = false

abbrev index_in : Instr → ℕ
index_in (Call n) = n
index_in _ = 0

called_index : (m n : ℕ) → Call m ≡ Call n → m ≡ n
called_index m n e = ap index_in e

module _ (h : HandlerData) where
  abbrev code : List Instr
  code = h.code

  abbrev calls : ℕ
  calls = length h.calls

  -- what is told of the places from here on is true, and all that came from below
  record IsTold (p : ℕ) (reached : ℕ → Bool) : Type 0 where
    pub true_of : (q : ℕ) → p ≤ q → q < length code → reached q ≡ true → Reachable code q
    pub told : (q : ℕ) → p ≤ q → q < length code → Came code p q → reached q ≡ true

  abbrev beyond : ℕ → (ℕ → Bool) → Instr → ℕ → Bool
  beyond p reached x q = reached q || (is_exit (exits_of (suc p) x) q && is_inside code p q)

  -- at a place that is reached
  true_beyond : (p : ℕ) (reached : ℕ → Bool) (x : Instr) → IsTold p reached → slice_get code p ≡ Some x →
      Reachable code p → (q : ℕ) → suc p ≤ q → q < length code → beyond p reached x q ≡ true → Reachable
      code q
  true_beyond p reached x is at here q from within told = by (reached q) refl told where
    by : (b : Bool) → reached q ≡ b → (b || (is_exit (exits_of (suc p) x) q && is_inside code p q)) ≡ true →
        Reachable code q
    by true old e = is.true_of q (omega (arith, from)) within old
    by false old e =
        let both = and_true (is_exit (exits_of (suc p) x) q) (is_inside code p q) e in
        reach.onward here (record {
          instr = x;
          at = at;
          exit = both.0;
          inside = both.1;
          later = omega (arith, from);
          within =
              within;
        })

  told_beyond : (p : ℕ) (reached : ℕ → Bool) (x : Instr) → IsTold p reached → slice_get code p ≡ Some x →
      (q : ℕ) → suc p ≤ q → q < length code → Came code (suc p) q → beyond p reached x q ≡ true
  told_beyond p reached x is at q from within (at_first e) =
      or_left _ _ (is.told q (omega (arith, from)) within (at_first e))
  told_beyond p reached x is at q from within (behind r below there follows) = by (nat_lt r p) refl where
    by : (b : Bool) → nat_lt r p ≡ b → beyond p reached x q ≡ true
    by true lt = or_left _ _ (is.told q (omega (arith, from)) within (behind r (ltb-true r p lt) there
        follows))
    by false ge =
        let same : r ≡ p = omega (arith, below, ltb-false r p ge) in
        let same_instr : follows.instr ≡ x = some_inj _ _ (sym follows.at ∙ ap (slice_get code) same ∙ at) in
        or_right _ _ (true_and _ _
        (sym (ap (λ y. is_exit y q) (ap (λ n. exits_of (suc n) follows.instr) same ∙ ap
        (exits_of (suc p)) same_instr)) ∙ follows.exit)
        (ap (λ n. is_inside code n q) (sym same) ∙ follows.inside))

  -- at a place that isn't reached
  told_past : (p : ℕ) (reached : ℕ → Bool) → IsTold p reached → ¬ (Reachable code p) →
      (q : ℕ) → suc p ≤ q → q < length code → Came code (suc p) q → reached q ≡ true
  told_past p reached is none q from within (at_first e) = is.told q (omega (arith, from)) within (at_first e)
  told_past p reached is none q from within (behind r below there follows) = by (nat_lt r p) refl where
    by : (b : Bool) → nat_lt r p ≡ b → reached q ≡ true
    by true lt = is.told q (omega (arith, from)) within (behind r (ltb-true r p lt) there follows)
    by false ge = absurd (none (subst (Reachable code) (omega (arith, below, ltb-false r p ge)) there))

  here_called : (p : ℕ) (ns : List ℕ) (x : Instr) → slice_get code p ≡ Some x → Reachable code p →
      CalleesBelow h p ns → CalleesBelow h (suc p) (ns ++ called calls x)
  here_called p ns (Call n) at here below = by (nat_lt n calls) refl where
    by : (b : Bool) → nat_lt n calls ≡ b → CalleesBelow h (suc p) (ns ++ (if b then n ∷ [] else []))
    by true lt = reach.called below (record { reached = here; at = at; named = ltb-true n calls lt })
    by false ge = subst (CalleesBelow h (suc p)) (sym (append-nil ns)) (reach.passed below other) where
      other : (m : ℕ) → Calls h p m → ⊥
      other m c = let same : m ≡ n = called_index _ _ (some_inj _ _ (sym c.at ∙ at)) in
          omega (arith, same, c.named, ltb-false n calls ge)
  here_called p ns x at here below = subst (CalleesBelow h (suc p)) (sym (append-nil ns))
      (reach.passed below (λ n c. false≢true (sym (ap is_call (some_inj _ _ (sym c.at ∙ at))))))

  -- the look at what is left, at each place
  looked_at : (p : ℕ) (reached : ℕ → Bool) (ns : List ℕ) (left : List Instr) → p + length left ≡ length code →
      ((i : ℕ) → slice_get code (i + p) ≡ slice_get left i) → IsTold p reached → CalleesBelow h p ns →
      CalleesBelow h (length code) (ns ++ callees_from code calls p reached left)
  looked_at p reached ns [] size at is below =
      subst (CalleesBelow h (length code)) (sym (append-nil ns))
      (subst (λ q. CalleesBelow h q ns) (omega (arith, size)) below)
  looked_at p reached ns (x ∷ left) size at is below =
      by (reached p) refl
      (λ here. looked_at (suc p) (beyond p reached x) (ns ++ called calls x) left (omega (arith, size)) next
      (record {
        true_of = true_beyond p reached x is instr_is here;
        told = told_beyond p reached x is
            instr_is;
      })
      (here_called p ns x instr_is here below))
      (λ none. looked_at (suc p) reached ns left (omega (arith, size)) next
      (record { true_of = λ q from. is.true_of q (omega (arith, from)); told = told_past p reached is none })
      (reach.passed below (λ n c. none c.reached))) where
        instr_is : slice_get code p ≡ Some x
        instr_is = ap (slice_get code) (omega arith) ∙ at 0

        next : (i : ℕ) → slice_get code (i + suc p) ≡ slice_get left i
        next i = ap (slice_get code) (omega arith) ∙ at (suc i)

        by : (b : Bool) → reached p ≡ b →
            (Reachable code p → CalleesBelow h (length code) ((ns ++ called calls x) ++ callees_from code calls
            (suc p) (beyond p reached x) left)) →
            (¬ (Reachable code p) → CalleesBelow h (length code) (ns ++ callees_from code calls (suc p) reached
            left)) →
            CalleesBelow h (length code) (ns ++ (if b then called calls x ++ callees_from code calls (suc p)
            (beyond p reached x) left
            else callees_from code calls (suc p) reached left))
        by true e there past =
            subst (CalleesBelow h (length code)) (append_assoc ns (called calls x) _)
            (there (is.true_of p (omega arith) (omega (arith, size)) e))
        by false e there past =
            past (λ r. false≢true (sym e ∙ is.told p (omega arith) (omega (arith, size)) (came code p r)))

  pub all_called : CalleesBelow h (length code) (callees_of h)
  unfolding callees_of
  all_called = looked_at 0 (λ q. q == 0) [] code (omega arith) (λ i. ap (slice_get code) (omega arith))
      (record { true_of = first_alone; told = first_told }) reach.none where
        first_alone : (q : ℕ) → 0 ≤ q → q < length code → (q == 0) ≡ true → Reachable code q
        first_alone zero from within e = reach.first within
        first_alone (suc q) from within e = absurd (omega (arith, (Decides-eqb (suc q) 0).0 e))

        first_told : (q : ℕ) → 0 ≤ q → q < length code → Came code 0 q → (q == 0) ≡ true
        first_told q from within (at_first e) = (Decides-eqb q 0).1 e
        first_told q from within (behind r below there follows) = absurd (omega (arith, below))
