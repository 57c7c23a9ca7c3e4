-- A handler with a fault is not accepted.
use Rattle.std.proofs.Common.{◌≡◌, ◌<◌, ◌≤◌, ◌⊎◌, ⊎_elim, ℕ, suc, Bool, true, false, List, [], length, Ok, Err, Some, None}
use Rattle.std.proofs.Common.{refl, sym, ap, ◌∙◌, subst, arith}
use Rattle.std.specs.Prelude.{nat_lt}
use Rattle.std.proofs.lemmas.Bool.{ltb-true, ltb-false}
use Rattle.std.proofs.lemmas.Option.{slice_get_within}
use Rattle.kb_core.specs.declared.arg.Kind.{Kind}
use Rattle.kb_base.specs.declared.failure.Failure.{Failure}
use Rattle.kb_base.specs.declared.failure.Failure.TheVariants as failure
use Rattle.kb_code.specs.declared.instr.Instr.{Instr}
use Rattle.kb_code.specs.declared.instr.Instr.TheVariants.{End}
use Rattle.kb_code.specs.Handler.{HandlerData}
use Rattle.kb_code.specs.Reachable.{Reachable, first, onward}
use Rattle.kb_verify.specs.declared.fault.Defect.{Defect}
use Rattle.kb_verify.specs.Callable.{Commands}
use Rattle.kb_verify.specs.Check.{check}
use Rattle.kb_verify.specs.Shapes.{HasShapesBelow, HasShapes, Comes, IsWrongAt, differ, fails, IsFirstWrong}
use Rattle.kb_verify.specs.Paths.{Steps, IsWithinBudget, IsOverBudget, Path}
use Rattle.kb_verify.specs.Route.{route_of}
use Rattle.kb_code.proofs.Entries.{end_adds_none}
use Rattle.kb_verify.specs.Accepted.{IsAccepted}
use Rattle.kb_verify.proofs.Edges.{reach_within}
use Rattle.kb_verify.specs.declared.fault.VerifyFault.{VerifyFault}
use Rattle.kb_verify.specs.declared.fault.VerifyFault.TheVariants.{Wrong, OverBudget, OverDepth}
use Rattle.kb_verify.specs.Faults.{IsEmpty, IsFault, IsFailure, IsSameFault, IsTrueFault, IsRefused, has_defect}
use Rattle.kb_verify.specs.Faults.{is_dear, is_deep, not_code, kind_in}
use Rattle.kb_verify.specs.Fault.{kind_of}
use Rattle.kb_code.specs.Blocks.{IsFormed}
use Rattle.kb_code.specs.Code.{code_fault}
use Rattle.kb_code.specs.declared.fault.CodeFault.{CodeFault}
use Rattle.kb_code.specs.declared.version.Version.TheVariants.{Two}
use Rattle.kb_code.proofs.Tables.{formed_code}

not_less : (p q : ℕ) → (p < q → ⊥) → q ≤ p
not_less p q never = go (nat_lt p q) refl
  where
    go : (b : Bool) → nat_lt p q ≡ b → q ≤ p
    go true e = absurd (never (ltb-true p q e))
    go false e = ltb-false p q e

module _ (commands : Commands) (h : HandlerData) where
  same_right : (p : ℕ) (ks ls a b : List Kind) (i : Instr) → ls ≡ ks → check commands h p ks i ≡ Ok a →
      check commands h p ls i ≡ Ok b → b ≡ a
  same_right p ks ls a b i e l r =
      let both : Ok b ≡ Ok a = sym r ∙ ap (λ x. check commands h p x i) e ∙ l in cc

  -- two assignments of shapes agree where both hold
  agree : (place bound : ℕ) (shape other : ℕ → List Kind) → HasShapesBelow commands h shape place →
      HasShapesBelow commands h other bound → (p : ℕ) → p < place → p < bound → Reachable h.code p →
      other p ≡ shape p
  agree place bound shape other below has p lt in_bound (first some) = has.start ∙ sym below.start
  agree place bound shape other below has q lt in_bound (onward {p = p} r f) =
      let here : p < place = omega (arith, lt, f.later) in
      let there : p < bound = omega (arith, in_bound, f.later) in
      let lower = below.each p f.instr here r f.at in
      let upper = has.each p f.instr there r f.at in
      upper.flows q in_bound f
      ∙ same_right p (shape p) (other p) lower.after upper.after f.instr (agree place bound shape other below has p here there r) lower.is_right upper.is_right
      ∙ sym (lower.flows q lt f)

  comes_agree : (place bound : ℕ) (shape other : ℕ → List Kind) → HasShapesBelow commands h shape place →
      HasShapesBelow commands h other bound → (q : ℕ) (a : List Kind) → q ≤ place → q < bound →
      Reachable h.code q → Comes commands h shape q a → other q ≡ a
  comes_agree place bound shape other below has q a le in_bound reach Comes.starts = has.start
  comes_agree place bound shape other below has e a le in_bound reach (Comes.closes {q = q} closes lt) =
      let upper = has.each e End in_bound reach closes.at in
      upper.turns q closes ∙ agree place bound shape other below has (suc q) (omega (arith, lt, le))
      (omega (arith, lt, in_bound)) (end_adds_none h.code q e closes reach)
  comes_agree place bound shape other below has q a le in_bound reach (Comes.flows {p = p} r f right) =
      let here : p < place = omega (arith, le, f.later) in
      let there : p < bound = omega (arith, in_bound, f.later) in
      let upper = has.each p f.instr there r f.at in
      upper.flows q in_bound f ∙ same_right p (shape p) (other p) a upper.after f.instr (agree place bound shape other below has p here there r) right upper.is_right

  -- a shape that reaches a place by one assignment reaches it by the other
  comes_too : (place : ℕ) (shape other : ℕ → List Kind) → HasShapesBelow commands h shape place →
      HasShapesBelow commands h other place → (q : ℕ) (a : List Kind) → q ≤ place → Reachable h.code q →
      Comes commands h shape q a → Comes commands h other q a
  comes_too place shape other below has q a le reach Comes.starts = Comes.starts
  comes_too place shape other below has e a le reach (Comes.closes {q = q} closes lt) =
      let here : suc q < place = omega (arith, lt, le) in
      subst (Comes commands h other e)
      (agree place place shape other below has (suc q) here here (end_adds_none h.code q e closes reach))
      (Comes.closes closes lt)
  comes_too place shape other below has q a le reach (Comes.flows {p = p} r f right) =
      let here : p < place = omega (arith, le, f.later) in
      Comes.flows r f (ap (λ ks. check commands h p ks f.instr) (agree place place shape other below has p here here r) ∙ right)

  some_comes : (place : ℕ) (shape : ℕ → List Kind) → HasShapesBelow commands h shape place →
      Reachable h.code place → (a : List Kind) × Comes commands h shape place a
  some_comes place shape below (first some) = ([], Comes.starts)
  some_comes place shape below (onward {p = p} r f) = let lower = below.each p f.instr f.later r f.at in (lower.after, Comes.flows r f lower.is_right)

  -- a place with a defect is right by no assignment
  pub wrong_refutes : (place bound : ℕ) (wrong : Defect) (shape other : ℕ → List Kind) →
      Reachable h.code place → HasShapesBelow commands h shape place → HasShapesBelow commands h other bound →
      place < bound → IsWrongAt commands h shape place wrong → ⊥
  wrong_refutes place bound wrong shape other reach below has lt (differ {a = a} {b = b} one two ne) =
      ne (sym (comes_agree place bound shape other below has place a (omega arith) lt reach one) ∙ comes_agree place bound shape other below has place b (omega arith) lt reach two)
  wrong_refutes place bound wrong shape other reach below has lt (fails {ks = ks} {instr = i} all at fault) =
      let some = some_comes place shape below reach in
      let same : other place ≡ ks = comes_agree place bound shape other below has place some.0 (omega arith) lt reach some.1 ∙ all some.0 some.1 in
      let right = has.each place i lt reach at in
      let both : Ok right.after ≡ Err wrong = sym right.is_right ∙ ap (λ x. check commands h place x i) same ∙ fault in
      cc

  pub first_refutes : (place : ℕ) (wrong : Defect) → IsFirstWrong commands h place wrong →
      HasShapes commands h → ⊥
  first_refutes place wrong w has = wrong_refutes place (length h.code) wrong w.shape has.0 w.reachable w.below has.1 (reach_within h.code place w.reachable) w.is_wrong

  -- the first place with a defect, and its defect, are unique
  same_wrong : (place : ℕ) (a b : Defect) (shape other : ℕ → List Kind) → Reachable h.code place →
      HasShapesBelow commands h shape place → HasShapesBelow commands h other place →
      IsWrongAt commands h shape place a → IsWrongAt commands h other place b → a ≡ b
  same_wrong place a b shape other reach below has (differ one two ne) (differ three four me) = refl
  same_wrong place a b shape other reach below has (differ {a = x} {b = y} one two ne) (fails all at fault) =
      absurd (ne (all x (comes_too place shape other below has place x (omega arith) reach one) ∙ sym (all y (comes_too place shape other below has place y (omega arith) reach two))))
  same_wrong place a b shape other reach below has (fails all at fault) (differ {a = x} {b = y} one two ne) =
      absurd (ne (all x (comes_too place other shape has below place x (omega arith) reach one) ∙ sym (all y (comes_too place other shape has below place y (omega arith) reach two))))
  same_wrong place a b shape other reach below has (fails {ks = ks} {instr = i} all at fault) (fails {ks = ls} {instr = j} every here wrong) =
      let some = some_comes place shape below reach in
      let same : ks ≡ ls = sym (all some.0 some.1) ∙ every some.0 (comes_too place shape other below has place some.0 (omega arith) reach some.1) in
      let one : i ≡ j = cc (at, here) in
      let both : Err a ≡ Err b = sym fault ∙ ap (λ x. check commands h place x i) same ∙ ap (check commands h place ls) one ∙ wrong in
      cc

  pub not_before : (p q : ℕ) (a b : Defect) → IsFirstWrong commands h p a → IsFirstWrong commands h q b →
      p < q → ⊥
  not_before p q a b v w lt = wrong_refutes p q a v.shape w.shape v.reachable v.below w.below lt v.is_wrong

  pub one_wrong : (p q : ℕ) (a b : Defect) → IsFirstWrong commands h p a → IsFirstWrong commands h q b →
      (a ≡ b) × (p ≡ q)
  one_wrong p q a b v w =
      let le : p ≤ q = not_less q p (not_before q p b a w v) in
      let ge : q ≤ p = not_less p q (not_before p q a b v w) in
      let e : q ≡ p = omega (arith, le, ge) in
      (same_wrong p a b v.shape w.shape v.reachable v.below (subst (HasShapesBelow commands h w.shape) e w.below) v.is_wrong (subst (λ r. IsWrongAt commands h w.shape r b) e w.is_wrong), sym e)

  refuted : (fault : VerifyFault) → IsFault commands h fault → IsAccepted commands h → ⊥
  refuted (Wrong wrong place) is a =
      ⊎_elim (λ e. let some = a.some_code in omega (arith, e.0, some)) (λ w. first_refutes place wrong w a.shapes) is
  refuted (OverBudget path) is a = let l = a.within_budget (route_of path.items) is.2.cost is.2.is_path in let over = is.2.over in omega (arith, l, over)
  refuted (OverDepth place) is a = let l = a.within_depth place is.3.index is.3.declaration is.3.callee in let deep = is.3.deep in omega (arith, l, deep)

  pub fault_refutes : (e : Failure VerifyFault) → IsFailure commands h e → IsTrueFault e →
      IsAccepted commands h → ⊥
  fault_refutes (failure.Fault fault) is true_one = refuted fault is
  fault_refutes failure.NoMemory is none = absurd none

  wrong_not : (d : Defect) (p : ℕ) → IsEmpty h d p ⊎ IsFirstWrong commands h p d → HasShapes commands h →
      {q : ℕ} → q < length h.code → ⊥
  wrong_not d p x has lt = ⊎_elim (λ v. omega (arith, v.0, lt)) (λ v. first_refutes p d v has) x

  over_not : (path : Steps) → IsWithinBudget commands h → IsOverBudget commands h path → ⊥
  over_not path within x = let l = within path x.cost x.is_path in let over = x.over in omega (arith, l, over)

  path_within : (p : ℕ) (path : Steps) (c : ℕ) → Path commands h p path c → p < length h.code
  path_within p path c (Path.returns i at x) = slice_get_within h.code p i at
  path_within p path c (Path.ends i at x) = slice_get_within h.code p i at
  path_within p path c (Path.repeats i at e lt closes inner more) = slice_get_within h.code p i at
  path_within p path c (Path.goes_on i at e lt more) = slice_get_within h.code p i at
  path_within p path c (Path.falls i at e lt more) = slice_get_within h.code p i at
  path_within p path c (Path.jumps i at e lt more) = slice_get_within h.code p i at

  pathed : (path : Steps) → IsOverBudget commands h path → 0 < length h.code
  pathed path x = path_within 0 path x.cost x.is_path

  -- two faults of one handler are the same
  pub fault_unique : (a b : VerifyFault) → IsFault commands h a → IsFault commands h b → IsSameFault a b
  fault_unique (Wrong d p) (Wrong e q) x y = ⊎_elim
      (λ v. ⊎_elim (λ w. (v.1 ∙ sym w.1, v.2 ∙ sym w.2)) (λ w. absurd (no_code (v.0) w)) y)
      (λ v. ⊎_elim (λ w. absurd (no_code (w.0) v)) (λ w. one_wrong p q d e v w) y) x
    where
      no_code : {p : ℕ} {d : Defect} → length h.code ≡ 0 → IsFirstWrong commands h p d → ⊥
      no_code e v = let l = reach_within h.code _ v.reachable in omega (arith, e, l)
  fault_unique (Wrong d p) (OverBudget path) x y = wrong_not d p x y.1 (pathed (route_of path.items) y.2)
  fault_unique (Wrong d p) (OverDepth q) x y = wrong_not d p x y.1 (reach_within h.code q y.3.callee.calls.reached)
  fault_unique (OverBudget path) (Wrong d p) x y = wrong_not d p y x.1 (pathed (route_of path.items) x.2)
  fault_unique (OverDepth q) (Wrong d p) x y = wrong_not d p y x.1 (reach_within h.code q x.3.callee.calls.reached)
  fault_unique (OverBudget path) (OverBudget other) x y = tt
  fault_unique (OverBudget path) (OverDepth q) x y = over_not (route_of path.items) y.2 x.2
  fault_unique (OverDepth q) (OverBudget path) x y = over_not (route_of path.items) x.2 y.2
  fault_unique (OverDepth p) (OverDepth q) x y =
      let le : p ≤ q = not_less q p (λ lt. let l = x.3.first q y.3.index y.3.declaration lt y.3.callee in let deep = y.3.deep in omega (arith, l, deep)) in
      let ge : q ≤ p = not_less p q (λ lt. let l = y.3.first p x.3.index x.3.declaration lt x.3.callee in let deep = x.3.deep in omega (arith, l, deep)) in
      omega (arith, le, ge)

  -- ---- what refuses a handler

  unformed : (fault : CodeFault) → code_fault Two h.code ≡ Some fault → IsFormed h.code → ⊥
  unformed fault is formed = let e : Some fault ≡ None = sym is ∙ formed_code h.code formed in absurd (cc)

  pub refused_not : IsRefused commands h → IsAccepted commands h → ⊥
  refused_not (has_defect d p is) a = refuted (Wrong d p) is a
  refused_not (is_dear path formed has over) a = over_not path a.within_budget over
  refused_not (is_deep place formed has within deep) a =
      let l = a.within_depth place deep.index deep.declaration deep.callee in let k = deep.deep in omega (arith, l, k)
  refused_not (not_code fault some has is) a = unformed fault is a.formed

  -- the number of what refuses it is that of its fault
  pub refused_number : (r : IsRefused commands h) (fault : VerifyFault) → IsFault commands h fault →
      kind_in r ≡ kind_of fault
  refused_number (has_defect d p is) (Wrong e q) y =
      let same = fault_unique (Wrong d p) (Wrong e q) is y in
      ap (λ x. kind_of (Wrong x p)) same.0 ∙ ap (λ n. kind_of (Wrong e n)) same.1
  refused_number (has_defect d p is) (OverBudget path) y =
      absurd (wrong_not d p is y.1 (pathed (route_of path.items) y.2))
  refused_number (has_defect d p is) (OverDepth q) y =
      absurd (wrong_not d p is y.1 (reach_within h.code q y.3.callee.calls.reached))
  refused_number (is_dear path formed has over) (Wrong d p) y = absurd (wrong_not d p y has (pathed path over))
  refused_number (is_dear path formed has over) (OverBudget other) y = refl
  refused_number (is_dear path formed has over) (OverDepth q) y = absurd (over_not path y.2 over)
  refused_number (is_deep q formed has within deep) (Wrong d p) y =
      absurd (wrong_not d p y has (reach_within h.code q deep.callee.calls.reached))
  refused_number (is_deep q formed has within deep) (OverBudget path) y =
      absurd (over_not (route_of path.items) within y.2)
  refused_number (is_deep q formed has within deep) (OverDepth p) y = refl
  refused_number (not_code fault some has is) (Wrong d p) y = absurd (wrong_not d p y has some)
  refused_number (not_code fault some has is) (OverBudget path) y = absurd (unformed fault is y.0)
  refused_number (not_code fault some has is) (OverDepth p) y = absurd (unformed fault is y.0)
