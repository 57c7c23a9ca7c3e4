-- Where a run of an accepted handler stands, and that what is left pays for all that may still come.
use Rattle.std.proofs.Common.{◌≡◌, ◌<◌, ◌≤◌, ℕ, zero, suc, ◌+◌, ◌*◌, Bool, true, List, [], ◌∷◌, length, Option}
use Rattle.std.proofs.Common.{Some, None, Ok, refl, sym, ap, ◌∙◌, subst, arith}
use Rattle.std.specs.Prelude.{slice_get, nat_le, nat_lt, Result}
use Rattle.std.proofs.lemmas.Bool.{leb-false, le-leb}
use Rattle.kb_core.specs.declared.arg.Arg.{Arg}
use Rattle.kb_core.specs.declared.arg.Kind.{Kind}
use Rattle.kb_code.specs.declared.instr.Instr.{Instr}
use Rattle.kb_code.specs.declared.instr.Instr.TheVariants as i
use Rattle.kb_code.specs.declared.exits.Exits.TheVariants.{Close}
use Rattle.kb_code.specs.Blocks.{opened, around_at, first_of, block_of, same, same_block, Closes, is_bad, IsFormed}
use Rattle.kb_code.specs.Exits.{exits_of, is_exit}
use Rattle.kb_code.specs.Handler.{HandlerData}
use Rattle.kb_code.specs.Plain.{is_plain}
use Rattle.kb_code.specs.Reachable.{Follows, Reachable, onward}
use Rattle.kb_code.proofs.BlockLemmas.{around_next, around_inner, not_bad}
use Rattle.kb_verify.specs.Callable.{Commands}
use Rattle.kb_verify.specs.Check.{effect}
use Rattle.kb_verify.specs.Paths.{cost, Steps, Nothing, Path, returns, ends, goes_on, falls, jumps, repeats}
use Rattle.kb_verify.specs.Shapes.{HasShapesBelow}
use Rattle.kb_verify.proofs.Arrivals.{cost_pos, extend, right_at, checked_at, follows_at, arrives_at}
use Rattle.kb_verify.proofs.Checks.{plain_around}
use Rattle.kb_verify.proofs.Edges.{equal}
use Rattle.kb_vm.specs.Position.{Position, standing, moved}
use Rattle.kb_soundness.proofs.Homes.{Home, out, within, one_more, unrolled, some_home, home_length}
use Rattle.kb_soundness.proofs.Shapes.{Fit, ok_is}

close_end : (p q : ℕ) (x : Instr) → exits_of p x ≡ Close q → x ≡ i.End
close_end p q i.End e = refl
close_end p q x e = absurd (cc)

same_same : (o : Option ℕ) → same o o ≡ true
same_same None = refl
same_same (Some p) = equal p

pub in_block : (code : List Instr) (p q : ℕ) → around_at code q ≡ around_at code p → same_block code p q ≡ true
in_block code p q e = ap (λ a. same (block_of code p) (first_of a)) e ∙ same_same (block_of code p)

module _ (commands : Commands) (h : HandlerData) (formed : IsFormed h.code) (shape : ℕ → List Kind)
    (has : HasShapesBelow commands h shape (length h.code)) where
  -- where a run stands: each path from here, and each way home after it, are paid for
  pub record Stands (left : ℕ) (at : Position) : Type 0 where
    pub reachable : Reachable h.code at.place
    pub fit : Fit (shape at.place) at.operands
    pub home : (m : ℕ) × Home commands h (around_at h.code at.place) at.turns m
    pub pays : (steps : Steps) (c m : ℕ) → Path commands h at.place steps c →
        Home commands h (around_at h.code at.place) at.turns m → c + m ≤ left

  -- at an `End` there is a way home, which costs something
  home_pos : (p : ℕ) (around left : List ℕ) (m : ℕ) → slice_get h.code p ≡ Some i.End →
      around_at h.code p ≡ around → Home commands h around left m → 1 ≤ m
  home_pos p around left m at is out =
      let n = not_bad h.code p i.End formed at in
      let b = ap (is_bad i.End) is in absurd (cc)
  home_pos p around left m at is (within r closes turn rest home) = omega arith

  owes_pos : (p : ℕ) (steps : Steps) (c m : ℕ) (left : List ℕ) → Path commands h p steps c →
      Home commands h (around_at h.code p) left m → 1 ≤ c + m
  owes_pos p steps c m left (returns x at e) home = let k = cost_pos commands h x in omega (arith, k)
  owes_pos p steps c m left (ends {q = q} x at e) home =
      let l = home_pos p (around_at h.code p) left m (at ∙ ap Some (close_end (suc p) q x e)) refl home in
      omega (arith, l)
  owes_pos p steps c m left (goes_on x at e lt path) home = let k = cost_pos commands h x in omega (arith, k)
  owes_pos p steps c m left (falls x at e lt path) home = let k = cost_pos commands h x in omega (arith, k)
  owes_pos p steps c m left (jumps x at e lt path) home = let k = cost_pos commands h x in omega (arith, k)
  owes_pos p steps c m left (repeats x at e lt closes turn rest) home =
      let k = cost_pos commands h x in omega (arith, k)

  -- something is left wherever it stands
  pub some_left : (left : ℕ) (at : Position) → Stands left at → 1 ≤ left
  some_left left at s =
      let a = arrives_at commands h formed shape has at.place s.reachable in
      let l = s.pays a.steps a.cost s.home.0 a.path s.home.1 in
      let one = owes_pos at.place a.steps a.cost s.home.0 at.turns a.path s.home.1 in
      omega (arith, l, one)

  module _ (rest : ℕ) (at : Position) (s : Stands (suc rest) at) (x : Instr)
      (is : slice_get h.code at.place ≡ Some x) where
    abbrev pub after : List Kind
    after = (right_at commands h formed shape has at.place x s.reachable is).after

    pub follows_here : (q : ℕ) → is_exit (exits_of (suc at.place) x) q ≡ true → Follows h.code at.place q
    follows_here q e = follows_at commands h formed shape has at.place q x s.reachable is e

    fits_there : (q : ℕ) (operands : List Arg) → Follows h.code at.place q → Fit after operands →
        Fit (shape q) operands
    fits_there q operands f fit =
        subst (λ ks. Fit ks operands)
        (sym ((right_at commands h formed shape has at.place x s.reachable is).flows q f.within f)) fit

    -- where a plain instruction leads, with what is left there
    pub goes_on_at : (q : ℕ) (operands : List Arg) (left : ℕ) → is_plain x ≡ true →
        is_exit (exits_of (suc at.place) x) q ≡ true → Fit after operands →
        ((c m : ℕ) → cost commands h x + c + m ≤ suc rest → c + m ≤ left) → Stands left (moved at q operands)
    goes_on_at q operands left plain exit fit pays =
        let f = follows_here q exit in
        let around = plain_around h.code at.place q x is plain f.inside in
        record {
          reachable = onward s.reachable f;
          fit = fits_there q operands f fit;
          home = (s.home.0, subst (λ a. Home commands h a at.turns s.home.0) (sym around) s.home.1);
          pays = λ steps c m path home.
              let more = extend commands h at.place q c steps x is plain exit f.later path in
              pays c m (s.pays more.0 (cost commands h x + c) m more.1
              (subst (λ a. Home commands h a at.turns m) around home));
        }

    -- what an instruction costs besides its path is left
    pub price_paid : is_plain x ≡ true → is_exit (exits_of (suc at.place) x) (suc at.place) ≡ true →
        cost commands h x ≤ suc rest
    price_paid plain exit =
        let f = follows_here (suc at.place) exit in
        let a = arrives_at commands h formed shape has (suc at.place) (onward s.reachable f) in
        let more = extend commands h at.place (suc at.place) a.cost a.steps x is plain exit f.later a.path in
        let l = s.pays more.0 (cost commands h x + a.cost) s.home.0 more.1 s.home.1 in
        omega (arith, l)

    -- a further block may be open
    pub has_room : (k : ℕ) → x ≡ i.Repeat k → length at.turns < 8
    has_room k repeat =
        let n = not_bad h.code at.place (i.Repeat k) formed (is ∙ ap Some repeat) in
        let l = home_length s.home.1 in
        let lt : length (around_at h.code at.place) < 8 = leb-false 8 (length (around_at h.code at.place)) n in
        omega (arith, l, lt)

    -- into a block of so many iterations
    pub opens_at : (k : ℕ) (operands : List Arg) → x ≡ i.Repeat (suc k) → Fit after operands →
        Stands rest (standing (suc at.place) (suc k ∷ at.turns) operands)
    opens_at k operands repeat fit =
        let p = at.place in
        let is_repeat = is ∙ ap Some repeat in
        let exit : is_exit (exits_of (suc p) x) (suc p) ≡ true =
        subst (λ y. is_exit (exits_of (suc p) y) (suc p) ≡ true) (sym repeat) (equal (suc p)) in
        let f = follows_here (suc p) exit in
        let r = onward s.reachable f in
        let around : around_at h.code (suc p) ≡ p ∷ around_at h.code p =
        around_next h.code p (i.Repeat (suc k)) is_repeat in
        let inner = arrives_at commands h formed shape has (suc p) r in
        let end = inner.closes p (around_at h.code p) around in
        let g = follows_at commands h formed shape has end.0 (suc end.0) i.End end.2 end.1.at (equal (suc end.0)) in
        let past = arrives_at commands h formed shape has (suc end.0) (onward end.2 g) in
        record {
          reachable = r;
          fit = fits_there (suc p) operands f fit;
          home = some_home around (within {k = k} r end.1 inner.path past.path s.home.1);
          pays = λ steps c m path home.
              let more = one_more commands h p k m c (around_at h.code p) at.turns steps path
              (subst (λ a. Home commands h a (suc k ∷ at.turns) m) around home) in
              let all = unrolled commands h p (suc k) more.0 (around_at h.code p) at.turns is_repeat more.1 in
              let l = s.pays all.0 all.1 all.2 all.3 all.4 in
              let le = more.2 in let same = all.5 in
              omega (arith, l, le, same);
        }

    -- after a block, behind its last iteration
    pub ends_at : (q : ℕ) (around left : List ℕ) (m : ℕ) (operands : List Arg) → x ≡ i.End → Fit after operands →
        around_at h.code at.place ≡ q ∷ around → at.turns ≡ suc zero ∷ left →
        Home commands h (q ∷ around) (suc zero ∷ left) m → Stands rest (standing (suc at.place) left operands)
    ends_at q around left m operands end fit is_around is_turns (within {c = b} {m = n} r closes turn past home) =
        let p = at.place in
        let is_end = is ∙ ap Some end in
        let exit : is_exit (exits_of (suc p) x) (suc p) ≡ true =
        subst (λ y. is_exit (exits_of (suc p) y) (suc p) ≡ true) (sym end) (equal (suc p)) in
        let f = follows_here (suc p) exit in
        let behind : around_at h.code (suc p) ≡ around =
        around_next h.code p i.End is_end ∙ ap (opened p i.End) is_around in
        let this : Closes h.code q p = record { at = is_end; block = ap first_of is_around } in
        record {
          reachable = onward s.reachable f;
          fit = fits_there (suc p) operands f fit;
          home = (n, subst (λ a. Home commands h a left n) (sym behind) home);
          pays = λ steps c m path home.
              let way = subst (λ t. Home commands h (q ∷ around) t (1 + (0 * (b + 1) + (c + m)))) (sym is_turns)
              (within {k = zero} r this turn path (subst (λ a. Home commands h a left m) behind home)) in
              let l = s.pays Nothing 0 (1 + (0 * (b + 1) + (c + m))) (ends i.End is_end refl)
              (subst (λ a. Home commands h a at.turns (1 + (0 * (b + 1) + (c + m)))) (sym is_around) way) in
              omega (arith, l);
        }

    -- an `End` leaves the operands as they are
    end_after : x ≡ i.End → shape at.place ≡ after
    end_after end =
        let c = checked_at commands h formed shape has at.place x s.reachable is in
        ok_is (shape at.place) after (ap (λ y. effect commands h y (shape at.place)) (sym end) ∙ c.effect_is)

    -- in the next iteration of a block
    pub turns_at : (q k : ℕ) (around left : List ℕ) (m : ℕ) (operands : List Arg) → x ≡ i.End →
        Fit after operands → around_at h.code at.place ≡ q ∷ around → at.turns ≡ suc (suc k) ∷ left →
        Home commands h (q ∷ around) (suc (suc k) ∷ left) m →
        Stands rest (standing (suc q) (suc k ∷ left) operands)
    turns_at q k around left m operands end fit is_around is_turns (within r closes turn past home) =
        let p = at.place in
        let is_end = is ∙ ap Some end in
        let right = right_at commands h formed shape has p x s.reachable is in
        let inner = around_inner h.code p q around is_around in
        let this : Closes h.code q p = record { at = is_end; block = ap first_of is_around } in
        record {
          reachable = r;
          fit = subst (λ ks. Fit ks operands) (sym (end_after end) ∙ right.turns q this) fit;
          home = some_home inner (within {k = k} r closes turn past home);
          pays = λ steps c m path home.
              let more = one_more commands h q k m c around left steps path
              (subst (λ a. Home commands h a (suc k ∷ left) m) inner home) in
              let l = s.pays Nothing 0 more.0 (ends i.End is_end refl)
              (subst (λ a. Home commands h a at.turns more.0) (sym is_around)
              (subst (λ t. Home commands h (q ∷ around) t more.0) (sym is_turns) more.1)) in
              let le = more.2 in
              omega (arith, l, le);
        }
