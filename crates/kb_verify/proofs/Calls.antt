-- The callees, by induction from the first place.
use Rattle.std.proofs.Common.{◌≡◌, ◌<◌, ◌≤◌, ◌+◌, ℕ, zero, suc, List, [], ◌∷◌, ◌++◌, length, map, get_or}
use Rattle.std.proofs.Common.{Option, Some, None, Ok, sym, ap, ◌∙◌, subst, refl, arith}
use Rattle.std.specs.Prelude.{slice_get, option_and_then}
use Rattle.std.specs.FinMap as fin_map
use Rattle.std.proofs.lemmas.Option.{slice_get_within}
use Rattle.kb_base.specs.Reading.{◌>>◌, unless}
use Rattle.std.specs.Prelude.{nat_le}
use Rattle.kb_core.specs.declared.arg.Kind.{Kind}
use Rattle.kb_core.specs.Declaration.{Declaration}
use Rattle.kb_code.specs.declared.instr.Instr.TheVariants.{Call}
use Rattle.kb_code.specs.Handler.{HandlerData}
use Rattle.kb_code.specs.Reachable.{Reachable, Calls, CalleesBelow}
use Rattle.kb_verify.specs.declared.fault.Defect.TheVariants as defect
use Rattle.kb_verify.specs.declared.callees.Callee.{Callee}
use Rattle.kb_verify.specs.declared.forward.Mark.{Mark}
use Rattle.kb_verify.specs.declared.forward.Mark.TheVariants as mark
use Rattle.kb_verify.specs.Callable.{Commands, declaration_at}
use Rattle.kb_verify.specs.Check.{effect, leads, without_args}
use Rattle.kb_verify.specs.Shapes.{HasShapes}
use Rattle.kb_verify.specs.Marks.{mark_at}
use Rattle.kb_verify.specs.Accepted.{IsCallee, AreDeclared}
use Rattle.kb_verify.proofs.Checks.{bound}
use native.Mathlib.Decide.{ℕ_discrete}

-- no reachable call below a place is too deep
abbrev pub IsShallowBelow : Commands → HandlerData → ℕ → Type 0
IsShallowBelow commands h p =
    (q m : ℕ) (d : Declaration) → q < p → IsCallee commands h q m d → d.depth + 1 ≤ h.signature.depth

pub one_index : (h : HandlerData) (p m n : ℕ) → Calls h p m → slice_get h.code p ≡ Some (Call n) → m ≡ n
one_index h p m n a at =
    let i : Call m ≡ Call n = cc (a.at, at) in
    cc

next_place : (h : HandlerData) (p : ℕ) (ns : List ℕ) → CalleesBelow h (suc p) ns → CalleesBelow h (p + 1) ns
next_place h p ns below = let e : suc p ≡ p + 1 = omega arith in subst (λ q. CalleesBelow h q ns) e below

mapped : (callees : List Callee) (c : Callee) →
    map (λ x. x.index) (callees ++ c ∷ []) ≡ map (λ x. x.index) callees ++ c.index ∷ []
mapped [] c = refl
mapped (x ∷ callees) c = ap (λ l. x.index ∷ l) (mapped callees c)

pub passed_too : (h : HandlerData) (p : ℕ) (ns : List ℕ) → CalleesBelow h p ns → ((n : ℕ) → Calls h p n → ⊥) →
    CalleesBelow h (p + 1) ns
passed_too h p ns below none = next_place h p ns (CalleesBelow.passed below none)

-- the mark that was read is the one at its place
pub unread : (ms : List Mark) (i : ℕ) (x : Mark) → mark_at ms i ≡ mark.Unreached → i < length ms →
    get_or ms i x ≡ mark.Unreached
unread (m ∷ ms) zero x e lt = e
unread (m ∷ ms) (suc i) x e lt = unread ms i x e (omega (arith, lt))
unread [] i x e lt = absurd (omega (arith, lt))

-- a check of a call that succeeds has a declared callee
never_right : (d : Option Declaration) (ks made : List Kind) → d ≡ None → without_args d ks ≡ Ok made → ⊥
never_right None ks made e is = cc
never_right (Some x) ks made e is = cc

-- a declared callee has a name in the list of calls
named : (commands : Commands) (calls : List (List ℕ)) (n : ℕ) (name : Option (List ℕ)) (d : Declaration) →
    slice_get calls n ≡ name → option_and_then (fin_map.get commands) name ≡ Some d → n < length calls
named commands calls n (Some x) d e is = slice_get_within calls n x e
named commands calls n None d e is = absurd (cc)

module _ (commands : Commands) (h : HandlerData) where
  one_declaration : (p m n : ℕ) (d e : Declaration) → IsCallee commands h p m d → IsCallee commands h p n e →
      d ≡ e
  one_declaration p m n d e a b =
      let i : m ≡ n = one_index h p m n a.calls b.calls.at in
      let s : Some d ≡ Some e = sym a.declares ∙ ap (declaration_at commands h) i ∙ b.declares in
      cc

  here_shallow : (p m n : ℕ) (d e : Declaration) → IsCallee commands h p m d →
      d.depth + 1 ≤ h.signature.depth → IsCallee commands h p n e → e.depth + 1 ≤ h.signature.depth
  here_shallow p m n d e a le b =
      subst (λ x. x.depth + 1 ≤ h.signature.depth) (one_declaration p m n d e a b) le

  shallower : (p : ℕ) → IsShallowBelow commands h p →
      ((m : ℕ) (d : Declaration) → IsCallee commands h p m d → d.depth + 1 ≤ h.signature.depth) →
      IsShallowBelow commands h (p + 1)
  shallower p below here q m d lt is = elim (ℕ_discrete q p) [
    | yes e ↦ here m d (subst (λ r. IsCallee commands h r m d) e is)
    | no ne ↦ below q m d (omega (arith, ne, lt)) is
  ]

  -- the step for a call, and for a place without a call
  pub shallow_called : (p n : ℕ) (d : Declaration) → IsShallowBelow commands h p → IsCallee commands h p n d →
      d.depth < h.signature.depth → IsShallowBelow commands h (p + 1)
  shallow_called p n d below is lt =
      shallower p below (λ m e. here_shallow p n m d e is (omega (arith, lt)))

  pub shallow_passed : (p : ℕ) → IsShallowBelow commands h p → ((n : ℕ) → Calls h p n → ⊥) →
      IsShallowBelow commands h (p + 1)
  shallow_passed p below none = shallower p below (λ m d is. absurd (none m is.calls))

  pub called_too : (p : ℕ) (d : Declaration) (callees more : List Callee) (c : Callee) →
      more ≡ callees ++ c ∷ [] → CalleesBelow h p (map (λ x. x.index) callees) →
      IsCallee commands h p c.index d → CalleesBelow h (p + 1) (map (λ x. x.index) more)
  called_too p d callees more c is below callee =
      next_place h p _ (subst (CalleesBelow h (suc p)) (sym (ap (map (λ x. x.index)) is ∙ mapped callees c)) (CalleesBelow.called below callee.calls))

  declared_behind : (callees : List Callee) (c : Callee) → AreDeclared commands h callees →
      declaration_at commands h c.index ≡ Some c.signature → AreDeclared commands h (callees ++ c ∷ [])
  declared_behind [] c all is = (is, tt)
  declared_behind (x ∷ callees) c all is = (all.0, declared_behind callees c all.1 is)

  pub declared_too : (callees more : List Callee) (c : Callee) → more ≡ callees ++ c ∷ [] →
      AreDeclared commands h callees → declaration_at commands h c.index ≡ Some c.signature →
      AreDeclared commands h more
  declared_too callees more c same all is = subst (AreDeclared commands h) (sym same) (declared_behind callees c all is)

  pub none_undeclared : HasShapes commands h → (p n : ℕ) → Reachable h.code p →
      slice_get h.code p ≡ Some (Call n) → declaration_at commands h n ≡ None → ⊥
  none_undeclared has p n reached at none =
      let right = has.1.each p (Call n) (slice_get_within h.code p (Call n) at) reached at in
      let b = bound (effect commands h (Call n) (has.0 p)) (λ made. leads h.code p (Call n) >> unless defect.TooHigh (nat_le (length made) 64) made) right.after right.is_right in
      never_right (declaration_at commands h n) (has.0 p) b.0 none b.1

  pub found_callee : (p n : ℕ) (d : Declaration) → Reachable h.code p → slice_get h.code p ≡ Some (Call n) →
      declaration_at commands h n ≡ Some d → IsCallee commands h p n d
  found_callee p n d reached at is = record {
    calls = record { reached = reached; at = at; named = named commands h.calls n (slice_get h.calls n) d refl is };
    declares = is;
  }
