-- From each place that is reached a path comes to the `End` of its block, or to a return.
use Rattle.std.proofs.Common.{◌≡◌, ◌<◌, ◌≤◌, ℕ, zero, suc, ◌+◌, ◌*◌, true, false, List, ◌∷◌, length}
use Rattle.std.proofs.Common.{Some, refl, sym, ap, ◌∙◌, subst, arith, get_or, ⊎_elim}
use Rattle.std.specs.Prelude.{slice_get, ◌==◌}
use Rattle.std.proofs.lemmas.Bool.Decides.{Decides-eqb}
use Rattle.std.proofs.lemmas.Option.{slice_get-get_or}
use Rattle.kb_code.specs.Handler.{HandlerData}
use Rattle.kb_verify.specs.Callable.{Commands}
use Rattle.kb_code.specs.declared.instr.Instr.{Instr}
use Rattle.kb_code.specs.declared.instr.Instr.TheVariants as i
use Rattle.kb_core.specs.declared.arg.Kind.{Kind}
use Rattle.kb_code.specs.Blocks.{opened, around_at, first_of, Closes, is_bad, IsFormed}
use Rattle.kb_code.specs.Exits.{exits_of, is_exit}
use Rattle.kb_code.specs.Reachable.{Follows, Reachable, onward, first}
use Rattle.kb_code.specs.declared.exits.Exits.TheVariants.{One, Two, Around}
use Rattle.kb_verify.specs.Paths.{cost, Steps, Nothing, Choice, Turns, Path, returns, ends, goes_on, falls, jumps, repeats}
use Rattle.kb_verify.specs.Shapes.{HasShapesBelow, IsRightAt}
use Rattle.kb_code.proofs.BlockLemmas.{around_next, around_inner, not_bad, closed_around, start_before}
use Rattle.kb_code.specs.Plain.{is_plain}
use Rattle.kb_code.proofs.Booleans.{or_elim, or_left}
use Rattle.kb_verify.proofs.Checks.{IsChecked, checked, follows, plain_around}
use Rattle.kb_verify.proofs.Edges.{equal, reach_within}

-- a block that is reached has an `End`, past which a place is reached
pub record HasBlock (code : List Instr) (p n q : ℕ) : Type 0 where
  pub end : ℕ
  pub closes : Closes code p end
  pub turns : 0 < n
  pub inner : Reachable code q
  pub later : p < q
  pub past : Reachable code (end + 1)
  pub after : p < end

repeat_is : (p n q : ℕ) (x : Instr) → exits_of (suc p) x ≡ Around n q → (x ≡ i.Repeat n) × (q ≡ suc p)
repeat_is p n q (i.Repeat m) e = (cc, cc)
repeat_is p n q i.Return e = absurd (cc)
repeat_is p n q x e = absurd (cc)

pub cost_pos : (commands : Commands) (h : HandlerData) (x : Instr) → 1 ≤ cost commands h x
cost_pos commands h (i.Call n) = omega arith
cost_pos commands h x = omega arith

abbrev pub SomePath : Commands → HandlerData → ℕ → ℕ → Type 0
SomePath commands h p c = (steps : Steps) × Path commands h p steps c

-- a path from where a plain instruction leads makes one from its place
pub extend : (commands : Commands) (h : HandlerData) (p q c : ℕ) (steps : Steps) (x : Instr) → slice_get h.code p ≡ Some x →
    is_plain x ≡ true → is_exit (exits_of (suc p) x) q ≡ true → p < q → Path commands h q steps c →
    SomePath commands h p (cost commands h x + c)
extend commands h p q c steps i.Return at plain is lt path = absurd (cc)
extend commands h p q c steps (i.Repeat n) at plain is lt path = absurd (cc)
extend commands h p q c steps i.End at plain is lt path = absurd (cc)
extend commands h p q c steps (i.JumpIfFalse to) at plain is lt path =
    ⊎_elim
    (λ e. let s : suc p ≡ q = sym ((Decides-eqb q (suc p)).0 e) in
    (Choice false steps, falls (i.JumpIfFalse to) at (ap (λ r. Two r to) s) lt path))
    (λ e. let s : to ≡ q = sym ((Decides-eqb q to).0 e) in
    (Choice true steps, jumps (i.JumpIfFalse to) at (ap (Two (suc p)) s) lt path))
    (or_elim (q == suc p) (q == to) is)
extend commands h p q c steps (i.Jump to) at plain is lt path =
    let s : to ≡ q = sym ((Decides-eqb q to).0 is) in
    (steps, goes_on (i.Jump to) at (ap One s) lt path)
extend commands h p q c steps x at plain is lt path =
    let s : suc p ≡ q = sym ((Decides-eqb q (suc p)).0 is) in (steps, goes_on x at (ap One s) lt path)

-- past the `End` of a block the same blocks are around as at its `Repeat`
pub past_around : (code : List Instr) (p n e : ℕ) → slice_get code p ≡ Some (i.Repeat n) → Closes code p e →
    around_at code (suc e) ≡ around_at code p
past_around code p n e at c =
    let a = closed_around code p e c in
    let inner : p ∷ around_at code p ≡ p ∷ a.0 =
    sym (around_next code p (i.Repeat n) at) ∙ around_inner code e p a.0 a.1 in
    let s : a.0 ≡ around_at code p = cc in
    around_next code e i.End c.at ∙ ap (opened e i.End) a.1 ∙ s

-- a path, and the `End` of the block around the place
pub record Arrives (commands : Commands) (h : HandlerData) (p : ℕ) : Type 0 where
  pub steps : Steps
  pub cost : ℕ
  pub path : Path commands h p steps cost
  pub closes : (q : ℕ) (around : List ℕ) → around_at h.code p ≡ q ∷ around →
      (e : ℕ) × Closes h.code q e × Reachable h.code e × (p ≤ e)

module _ (commands : Commands) (h : HandlerData) (formed : IsFormed h.code) (shape : ℕ → List Kind)
    (has : HasShapesBelow commands h shape (length h.code)) where
  pub right_at : (p : ℕ) (x : Instr) → Reachable h.code p → slice_get h.code p ≡ Some x →
      IsRightAt commands h shape (length h.code) p x
  right_at p x r at = has.each p x (reach_within h.code p r) r at

  pub checked_at : (p : ℕ) (x : Instr) (r : Reachable h.code p) (at : slice_get h.code p ≡ Some x) →
      IsChecked commands h p (shape p) (right_at p x r at).after x
  checked_at p x r at = checked commands h p (shape p) (right_at p x r at).after x (right_at p x r at).is_right

  pub follows_at : (p q : ℕ) (x : Instr) → Reachable h.code p → slice_get h.code p ≡ Some x →
      is_exit (exits_of (suc p) x) q ≡ true → Follows h.code p q
  follows_at p q x r at is = follows h.code p q x at is ((checked_at p x r at).onward q is)

  -- by an exit of a plain instruction, from where a path arrives
  by_exit : (p q : ℕ) (x : Instr) → Reachable h.code p → slice_get h.code p ≡ Some x → is_plain x ≡ true →
      is_exit (exits_of (suc p) x) q ≡ true → (f : Follows h.code p q) → Arrives commands h q → Arrives commands h p
  by_exit p q x r at plain is f a =
      let more = extend commands h p q a.cost a.steps x at plain is f.later a.path in
      record {
        steps = more.0;
        cost = cost commands h x + a.cost;
        path = more.1;
        closes = λ b around e.
            let d = a.closes b around (plain_around h.code p q x at plain f.inside ∙ e) in
            (d.0, d.1, d.2, let lt = f.later in let le = d.3 in omega (arith, lt, le));
      }

  plainly : (d p q : ℕ) (x : Instr) → length h.code ≤ p + suc d → Reachable h.code p →
      slice_get h.code p ≡ Some x → is_plain x ≡ true → is_exit (exits_of (suc p) x) q ≡ true →
      ((q : ℕ) → length h.code ≤ q + d → Reachable h.code q → Arrives commands h q) → Arrives commands h p
  plainly d p q x le r at plain is rest =
      let f = follows_at p q x r at is in
      by_exit p q x r at plain is f (rest q (let lt = f.later in omega (arith, le, lt)) (onward r f))

  arrives_by : (d p : ℕ) (x : Instr) → length h.code ≤ p + suc d → Reachable h.code p →
      slice_get h.code p ≡ Some x →
      ((q : ℕ) → length h.code ≤ q + d → Reachable h.code q → Arrives commands h q) → Arrives commands h p
  arrives_by d p i.Return le r at rest = record {
    steps = Nothing;
    cost = 1;
    path = returns i.Return at refl;
    closes = λ q around e.
        let n = not_bad h.code p i.Return formed at in
        let m = ap (is_bad i.Return) e in absurd (cc);
  }
  arrives_by d p i.End le r at rest = record {
    steps = Nothing;
    cost = 0;
    path = ends i.End at refl;
    closes = λ q around e. (p, record { at = at; block = ap first_of e }, r, omega arith);
  }
  arrives_by d p (i.Repeat n) le r at rest =
      let f = follows_at p (suc p) (i.Repeat n) r at (equal (suc p)) in
      let inner = rest (suc p) (omega (arith, le)) (onward r f) in
      let end = inner.closes p (around_at h.code p) (around_next h.code p (i.Repeat n) at) in
      let e = end.0 in let closes = end.1 in let later = end.3 in
      let g = follows_at e (suc e) i.End end.2 closes.at (equal (suc e)) in
      let past = rest (suc e) (omega (arith, le, later)) (onward end.2 g) in
      record {
        steps = Turns inner.steps past.steps;
        cost = 1 + (n * (inner.cost + 1) + past.cost);
        path = repeats (i.Repeat n) at refl (omega arith) closes inner.path past.path;
        closes = λ q around is.
            let d = past.closes q around (past_around h.code p n e at closes ∙ is) in
            (d.0, d.1, d.2, let k = d.3 in omega (arith, k, later));
      }
  arrives_by d p (i.Jump to) le r at rest = plainly d p to (i.Jump to) le r at refl (equal to) rest
  arrives_by d p (i.JumpIfFalse to) le r at rest =
      plainly d p (suc p) (i.JumpIfFalse to) le r at refl
      (or_left (suc p == suc p) (suc p == to) (equal (suc p))) rest
  arrives_by d p x le r at rest = plainly d p (suc p) x le r at refl (equal (suc p)) rest

  pub arrives : (d p : ℕ) → length h.code ≤ p + d → Reachable h.code p → Arrives commands h p
  arrives zero p le r = let lt = reach_within h.code p r in absurd (omega (arith, lt, le))
  arrives (suc d) p le r =
      arrives_by d p (get_or h.code p i.Return) le r (slice_get-get_or h.code p i.Return (reach_within h.code p r))
      (arrives d)

  pub arrives_at : (p : ℕ) → Reachable h.code p → Arrives commands h p
  arrives_at p r = arrives (length h.code) p (omega arith) r

  pub block_at : (p n q : ℕ) (x : Instr) → Reachable h.code p → slice_get h.code p ≡ Some x →
      exits_of (suc p) x ≡ Around n q → HasBlock h.code p n q
  block_at p n q x r here e =
      let s = repeat_is p n q x e in
      let at : slice_get h.code p ≡ Some (i.Repeat n) = here ∙ ap Some s.0 in
      let f = follows_at p q x r here (ap (λ y. is_exit y q) e ∙ equal q) in
      let inner = onward r f in
      let same : suc p ≡ q = sym s.1 in
      let a = arrives_at q inner in
      let around = ap (around_at h.code) (sym same) ∙ around_next h.code p (i.Repeat n) at in
      let end = a.closes p (around_at h.code p) around in
      let g = follows_at end.0 (suc end.0) i.End end.2 end.1.at (equal (suc end.0)) in
      record {
        end = end.0;
        closes = end.1;
        turns = formed.turns p n at;
        inner = inner;
        later = f.later;
        past = subst (Reachable h.code) (let t : suc end.0 ≡ end.0 + 1 = omega arith in t) (onward end.2 g);
        after = start_before h.code p end.0 end.1;
      }
