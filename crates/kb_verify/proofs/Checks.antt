-- What a check that succeeds says.
use Rattle.std.proofs.Common.{◌≡◌, ◌<◌, ◌≤◌, ℕ, suc, Bool, true, false, List, length, refl, sym, ap, ◌∙◌, subst}
use Rattle.std.proofs.Common.{arith, ⊎_elim, Result, Ok, Err, Some}
use Rattle.std.specs.Prelude.{⊤, nat_lt, nat_le, ◌&&◌, ◌==◌, slice_get}
use Rattle.std.proofs.lemmas.Bool.{ltb-true, leb-true}
use Rattle.std.proofs.lemmas.Bool.Decides.{Decides-eqb}
use Rattle.kb_base.specs.Reading.{◌>>=◌, ◌>>◌, guard, unless}
use Rattle.kb_core.specs.declared.arg.Kind.{Kind}
use Rattle.kb_code.specs.declared.instr.Instr.{Instr}
use Rattle.kb_code.specs.declared.instr.Instr.TheVariants as i
use Rattle.kb_code.specs.Blocks.{around_at, same_block, is_inside}
use Rattle.kb_code.specs.Exits.{exits_of, is_exit}
use Rattle.kb_code.specs.Handler.{HandlerData}
use Rattle.kb_code.specs.Plain.{is_plain}
use Rattle.kb_code.specs.Reachable.{Follows}
use Rattle.kb_code.proofs.BlockLemmas.{around_next, same_around, opened_plain}
use Rattle.kb_code.proofs.Booleans.{and_true, or_left, or_right, or_elim}
use Rattle.kb_verify.specs.declared.fault.Defect.{Defect}
use Rattle.kb_verify.specs.declared.fault.Defect.TheVariants as defect
use Rattle.kb_verify.specs.Callable.{Commands}
use Rattle.kb_verify.specs.Check.{check, effect, leads, jumps_on, falls_on}

-- a sequence of two readings that succeeds has a first part that succeeds
abbrev pub IsBound : {A B : Type 0} → Result A Defect → (A → Result B Defect) → B → Type 0
IsBound {A = A} r f x = (a : A) × (r ≡ Ok a) × (f a ≡ Ok x)

pub bound : {A B : Type 0} (r : Result A Defect) (f : A → Result B Defect) (x : B) → r >>= f ≡ Ok x →
    IsBound r f x
bound (Ok a) f x e = (a, refl, e)
bound (Err d) f x e = absurd (cc)

passed : {B : Type 0} (r : Result ⊤ Defect) (s : Result B Defect) (x : B) → r >> s ≡ Ok x →
    (r ≡ Ok tt) × (s ≡ Ok x)
passed (Ok t) s x e = (refl, e)
passed (Err d) s x e = absurd (cc)

guarded : (d : Defect) (b : Bool) → guard d b ≡ Ok tt → b ≡ true
guarded d true e = refl
guarded d false e = absurd (cc)

unless_ok : (d : Defect) (b : Bool) (ks after : List Kind) → unless d b ks ≡ Ok after → (b ≡ true) × (ks ≡ after)
unless_ok d true ks after e = (refl, cc)
unless_ok d false ks after e = absurd (cc)

-- ---- the exits

-- a later place of the code, the next one or one of the same block
pub record IsOnward (code : List Instr) (p q : ℕ) : Type 0 where
  pub later : p < q
  pub within : q < length code
  pub inside : is_inside code p q ≡ true

fallen : (code : List Instr) (p q : ℕ) → falls_on code p ≡ Ok tt → (q == suc p) ≡ true → IsOnward code p q
fallen code p q e is = subst (IsOnward code p) (sym ((Decides-eqb q (suc p)).0 is)) (record {
  later = omega arith;
  within = ltb-true _ _ (guarded defect.FallsOff (nat_lt (suc p) (length code)) e);
  inside = or_left (suc p == suc p) _ ((Decides-eqb (suc p) (suc p)).1 refl);
})

jumped : (code : List Instr) (p to q : ℕ) → jumps_on code p to ≡ Ok tt → (q == to) ≡ true → IsOnward code p q
jumped code p to q e is =
    let b = and_true (nat_lt p to) _ (guarded defect.BadJump _ e) in
    let c = and_true (nat_lt to (length code)) (same_block code p to) b.1 in
    subst (IsOnward code p) (sym ((Decides-eqb q to).0 is)) (record {
      later = ltb-true _ _ b.0;
      within = ltb-true _ _ c.0;
      inside = or_right (to == suc p) (same_block code p to) c.1;
    })

led : (code : List Instr) (p : ℕ) (x : Instr) → leads code p x ≡ Ok tt → (q : ℕ) →
    is_exit (exits_of (suc p) x) q ≡ true → IsOnward code p q
led code p i.Return e q is = absurd (cc)
led code p (i.Jump to) e q is = jumped code p to q e is
led code p (i.JumpIfFalse to) e q is =
    let b = passed (jumps_on code p to) (falls_on code p) tt e in
    ⊎_elim (fallen code p q b.1) (jumped code p to q b.0) (or_elim (q == suc p) (q == to) is)
led code p x e q is = fallen code p q e is

-- ---- the whole check

pub record IsChecked (commands : Commands) (h : HandlerData) (p : ℕ) (ks after : List Kind) (x : Instr) :
    Type 0 where
  pub effect_is : effect commands h x ks ≡ Ok after
  pub onward : (q : ℕ) → is_exit (exits_of (suc p) x) q ≡ true → IsOnward h.code p q
  pub has_room : length after ≤ 64

pub checked : (commands : Commands) (h : HandlerData) (p : ℕ) (ks after : List Kind) (x : Instr) →
    check commands h p ks x ≡ Ok after → IsChecked commands h p ks after x
checked commands h p ks after x e =
    let b = bound (effect commands h x ks) (λ made. leads h.code p x >> unless defect.TooHigh (nat_le (length made) 64) made) after e in
    let l = passed (leads h.code p x) (unless defect.TooHigh (nat_le (length b.0) 64) b.0) after b.2 in
    let u = unless_ok defect.TooHigh (nat_le (length b.0) 64) b.0 after l.1 in
    record {
      effect_is = b.1 ∙ ap Ok u.1;
      onward = led h.code p x l.0;
      has_room = subst (λ ks. length ks ≤ 64) u.1 (leb-true _ _ u.0);
    }

-- an exit that a check allows follows
abbrev pub follows : (code : List Instr) (p q : ℕ) (x : Instr) → slice_get code p ≡ Some x →
    is_exit (exits_of (suc p) x) q ≡ true → IsOnward code p q → Follows code p q
follows code p q x at is on =
    record { instr = x; at = at; exit = is; inside = on.inside; later = on.later; within = on.within }

-- the same blocks are around what a plain instruction leads to
pub plain_around : (code : List Instr) (p q : ℕ) (x : Instr) → slice_get code p ≡ Some x → is_plain x ≡ true →
    is_inside code p q ≡ true → around_at code q ≡ around_at code p
plain_around code p q x at plain inside =
    ⊎_elim
    (λ e. let s : q ≡ suc p = (Decides-eqb q (suc p)).0 e in
    ap (around_at code) s ∙ around_next code p x at ∙ opened_plain p x (around_at code p) plain)
    (λ e. sym (same_around code p q e))
    (or_elim (q == suc p) (same_block code p q) inside)
