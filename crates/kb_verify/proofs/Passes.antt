-- The pass forward.
use Rattle.std.proofs.Common.{◌≡◌, ◌≢◌, ◌<◌, ◌≤◌, inl, inr, ⊎_elim, ℕ, zero, suc, ◌+◌, true, List, [], ◌∷◌}
use Rattle.std.proofs.Common.{◌++◌, length, get_or, replicate, Ok, Err, Some, refl, sym, ap, ◌∙◌, subst, arith}
use Rattle.std.specs.Prelude.{slice_get, ◌==◌}
use Rattle.std.proofs.lemmas.Bool.Decides.{Decides-eqb}
use Rattle.std.proofs.lemmas.Option.{slice_get-get_or, get_or_from_slice_get}
use Rattle.std.proofs.lemmas.List.{get_or-set_same, get_or-set_other, length-set, length-replicate}
use Rattle.kb_code.specs.Handler.{HandlerData}
use Rattle.kb_verify.specs.Callable.{Commands}
use Rattle.kb_core.specs.declared.arg.Kind.{Kind}
use Rattle.kb_code.specs.declared.instr.Instr.{Instr}
use Rattle.kb_code.specs.declared.exits.Exits.{Exits}
use Rattle.kb_code.specs.declared.exits.Exits.TheVariants.{Stop, One, Two, Around, Close}
use Rattle.kb_verify.specs.declared.fault.Defect.{Defect}
use Rattle.kb_verify.specs.declared.fault.Defect.TheVariants as defect
use Rattle.kb_code.specs.Blocks.{Closes}
use Rattle.kb_code.specs.Exits.{exits_of, is_exit}
use Rattle.kb_code.specs.Reachable.{Follows, Reachable, first, onward}
use Rattle.kb_verify.specs.Check.{check}
use Rattle.kb_verify.specs.Shapes.{HasShapesBelow, HasShapes, Comes, differ, fails, IsFirstWrong}
use Rattle.kb_code.proofs.BlockLemmas.{start_before}
use Rattle.kb_code.proofs.Booleans.{or_left, or_right, or_elim}
use Rattle.kb_verify.proofs.Checks.{checked, follows}
use Rattle.kb_verify.proofs.Edges.{equal, exit_of}
use Rattle.kb_code.proofs.Entries.{end_adds_none}
use Rattle.kb_verify.specs.declared.forward.Mark.{Mark}
use Rattle.kb_verify.specs.declared.forward.Mark.TheVariants as mark
use Rattle.kb_verify.specs.Marks.{mark_at, HasBeen, Meets, FlowsTo, FlowsFrom, AreWithin, Sent, Explains, Looked}
use Rattle.kb_verify.specs.Marks.{IsMarked, ComesRound, GoesWrong}
use native.Mathlib.Decide.{ℕ_discrete}

pub read_as : (ms : List Mark) (i : ℕ) (x y : Mark) → i < length ms → x ≡ get_or ms i x → x ≡ y →
    mark_at ms i ≡ y
read_as ms i x y lt e f =
    get_or_from_slice_get ms i x mark.Unreached (slice_get-get_or ms i x lt ∙ ap Some (sym e)) ∙ f

-- a shape that meets a mark
meets_grown : (m n : Mark) (after a : List Kind) → Meets m after n → HasBeen m a → HasBeen n a
meets_grown mark.Unreached n after a w b = absurd (⊎_elim (λ e. cc) (λ e. cc) b)
meets_grown (mark.Has before) n after a w b =
    ⊎_elim (λ s. ⊎_elim (λ e. inl (s.1 ∙ e)) (λ e. inr (s.1 ∙ e)) b) (λ d. inr d.1) w
meets_grown mark.Differs n after a w b = inr w

meets_hit : (m n : Mark) (after : List Kind) → Meets m after n → HasBeen n after
meets_hit mark.Unreached n after w = inl w
meets_hit (mark.Has before) n after w = ⊎_elim (λ s. inl (s.1 ∙ ap mark.Has s.0)) (λ d. inr d.1) w
meets_hit mark.Differs n after w = inr w

-- at the place, and at another
at_or_other : (q : ℕ) (P : ℕ → Type 0) → P q → ((r : ℕ) → r ≢ q → P r) → (r : ℕ) → P r
at_or_other q P here other r = elim (ℕ_discrete r q) [ yes e ↦ subst P (sym e) here | no d ↦ other r d ]

-- what holds of all marks, and is kept where a shape meets one, holds after a flow
carried_to : (ms ns : List Mark) (q : ℕ) (after : List Kind) → q < length ms → FlowsTo ms q after ns →
    (P : ℕ → Mark → Type 0) → ((m n : Mark) → Meets m after n → P q m → P q n) →
    ((r : ℕ) → P r (mark_at ms r)) → (r : ℕ) → P r (mark_at ns r)
carried_to ms ns q after lt f P step all =
    let m = f.0 in
    let same : mark_at ns q ≡ m = ap (λ l. mark_at l q) f.2 ∙ get_or-set_same ms q m mark.Unreached lt in
    let kept : (r : ℕ) → r ≢ q → mark_at ns r ≡ mark_at ms r =
    λ r ne. ap (λ l. mark_at l r) f.2 ∙ get_or-set_other ms q r m mark.Unreached ne in
    at_or_other q (λ r. P r (mark_at ns r)) (subst (P q) (sym same) (step (mark_at ms q) m f.1 (all q)))
    (λ r ne. subst (P r) (sym (kept r ne)) (all r))

hit_to : (ms ns : List Mark) (q : ℕ) (after : List Kind) → q < length ms → FlowsTo ms q after ns →
    HasBeen (mark_at ns q) after
hit_to ms ns q after lt f =
    let same : mark_at ns q ≡ f.0 = ap (λ l. mark_at l q) f.2 ∙ get_or-set_same ms q f.0 mark.Unreached lt in
    subst (λ x. HasBeen x after) (sym same) (meets_hit (mark_at ms q) f.0 after f.1)

pub flow_size : (ms ns : List Mark) (q : ℕ) (after : List Kind) → FlowsTo ms q after ns → length ns ≡ length ms
flow_size ms ns q after f = ap length f.2 ∙ length-set ms q f.0

carried : (exits : Exits) (ms ns : List Mark) (after : List Kind) → AreWithin exits (length ms) →
    FlowsFrom exits ms after ns → (P : ℕ → Mark → Type 0) →
    ((q : ℕ) (m n : Mark) → is_exit exits q ≡ true → Meets m after n → P q m → P q n) →
    ((r : ℕ) → P r (mark_at ms r)) → (r : ℕ) → P r (mark_at ns r)
carried Stop ms ns after on f P step all r = subst (λ l. P r (mark_at l r)) (sym f) (all r)
carried (One q) ms ns after on f P step all r = carried_to ms ns q after on f P (λ m n. step q m n (equal q)) all r
carried (Two q t) ms ns after on f P step all r =
    let ks = f.0 in
    let lt : t < length ks = omega (arith, on.1, flow_size ms ks q after f.1) in
    carried_to ks ns t after lt f.2 P (λ m n. step t m n (or_right (t == q) (t == t) (equal t)))
    (carried_to ms ks q after on.0 f.1 P (λ m n. step q m n (or_left (q == q) (q == t) (equal q))) all) r
carried (Around k q) ms ns after on f P step all r =
    carried_to ms ns q after on f P (λ m n. step q m n (equal q)) all r
carried (Close q) ms ns after on f P step all r = carried_to ms ns q after on f P (λ m n. step q m n (equal q)) all r

hit_one : (ms ns : List Mark) (after : List Kind) (a q : ℕ) → a < length ms → FlowsTo ms a after ns →
    (q == a) ≡ true → HasBeen (mark_at ns q) after
hit_one ms ns after a q on f x =
    subst (λ r. HasBeen (mark_at ns r) after) (sym ((Decides-eqb q a).0 x)) (hit_to ms ns a after on f)

hit : (exits : Exits) (ms ns : List Mark) (after : List Kind) → AreWithin exits (length ms) →
    FlowsFrom exits ms after ns → (q : ℕ) → is_exit exits q ≡ true → HasBeen (mark_at ns q) after
hit Stop ms ns after on f q x = absurd (cc)
hit (One a) ms ns after on f q x = hit_one ms ns after a q on f x
hit (Around k a) ms ns after on f q x = hit_one ms ns after a q on f x
hit (Close a) ms ns after on f q x = hit_one ms ns after a q on f x
hit (Two a b) ms ns after on f q x =
    let ks = f.0 in
    let lt : b < length ks = omega (arith, on.1, flow_size ms ks a after f.1) in
    let one : HasBeen (mark_at ns a) after =
    carried_to ks ns b after lt f.2 (λ r m. HasBeen (mark_at ks r) after → HasBeen m after)
    (λ m n w g e. meets_grown m n after after w (g e)) (λ r e. e) a (hit_to ms ks a after on.0 f.1) in
    ⊎_elim (λ e. subst (λ r. HasBeen (mark_at ns r) after) (sym ((Decides-eqb q a).0 e)) one)
    (λ e. hit_one ks ns after b q lt f.2 e) (or_elim (q == a) (q == b) x)

same_marks : (ms : List Mark) (i r : ℕ) → r ≤ i → mark_at ms r ≡ mark_at ms r
same_marks ms i r le = refl

-- the shapes that the marks give
abbrev pub shape_in : Mark → List Kind
shape_in mark.Unreached = []
shape_in (mark.Has ks) = ks
shape_in mark.Differs = []

abbrev pub shapes_in : List Mark → ℕ → List Kind
shapes_in ms p = shape_in (mark_at ms p)

been_there : (m : Mark) (a : List Kind) → HasBeen m a → m ≢ mark.Unreached
been_there m a b e = ⊎_elim (λ f. cc) (λ f. cc) b

been_has : (m : Mark) (a ks : List Kind) → HasBeen m a → m ≡ mark.Has ks → ks ≡ a
been_has m a ks b e = ⊎_elim (λ f. cc) (λ f. cc) b

root_shape : (m : Mark) → HasBeen m [] → shape_in m ≡ []
root_shape m b = ⊎_elim (λ e. ap shape_in e) (λ e. ap shape_in e) b

-- the marks at the start
blank_at : (n p : ℕ) → mark_at (replicate n mark.Unreached) p ≡ mark.Unreached
blank_at zero p = refl
blank_at (suc n) zero = refl
blank_at (suc n) (suc p) = blank_at n p

pub one_more : (n : ℕ) → replicate n mark.Unreached ++ mark.Unreached ∷ [] ≡ replicate (suc n) mark.Unreached
one_more zero = refl
one_more (suc n) = ap (λ l. mark.Unreached ∷ l) (one_more n)

pub are_within : (exits : Exits) (size : ℕ) → ((q : ℕ) → is_exit exits q ≡ true → q < size) → AreWithin exits size
are_within Stop size all = tt
are_within (One q) size all = all q (equal q)
are_within (Two q r) size all =
    (all q (or_left (q == q) (q == r) (equal q)), all r (or_right (r == q) (r == r) (equal r)))
are_within (Around n q) size all = all q (equal q)
are_within (Close q) size all = all q (equal q)

module _ (commands : Commands) (h : HandlerData) where
  meets_explained : (i : ℕ) (ms : List Mark) (q : ℕ) (m n : Mark) (after : List Kind) →
      Sent commands h i ms q after → Meets m after n → Explains commands h i ms q m → Explains commands h i ms q n
  meets_explained i ms q mark.Unreached n after s w x = subst (Explains commands h i ms q) (sym w) s
  meets_explained i ms q (mark.Has before) n after s w x =
      ⊎_elim (λ e. subst (Explains commands h i ms q) (sym e.1) x)
      (λ d. subst (Explains commands h i ms q) (sym d.1) (before, after, x, s, d.0)) w
  meets_explained i ms q mark.Differs n after s w x = subst (Explains commands h i ms q) (sym w) x

  -- what was sent stays, where the marks that were looked at stay
  sent_on : (i : ℕ) (ms ns : List Mark) → ((r : ℕ) → r ≤ i → mark_at ns r ≡ mark_at ms r) →
      (q : ℕ) (a : List Kind) → Sent commands h i ms q a → Sent commands h (i + 1) ns q a
  sent_on i ms ns kept q a Sent.starts = Sent.starts
  sent_on i ms ns kept q a (Sent.flows {p = p} lt has f right) =
      Sent.flows (omega (arith, lt)) (kept p (omega (arith, lt)) ∙ has) f right

  explains_on : (i : ℕ) (ms ns : List Mark) → ((r : ℕ) → r ≤ i → mark_at ns r ≡ mark_at ms r) →
      (q : ℕ) (m : Mark) → Explains commands h i ms q m → Explains commands h (i + 1) ns q m
  explains_on i ms ns kept q mark.Unreached x = tt
  explains_on i ms ns kept q (mark.Has ks) x = sent_on i ms ns kept q ks x
  explains_on i ms ns kept q mark.Differs x =
      (x.0, x.1, sent_on i ms ns kept q x.0 x.2, sent_on i ms ns kept q x.1 x.3, x.4)

  here_reached : (i : ℕ) (ms : List Mark) (p : ℕ) (ks : List Kind) → IsMarked commands h i ms →
      mark_at ms p ≡ mark.Has ks → Reachable h.code p
  here_reached i ms p ks marked e =
      marked.reached p (λ f. let g : mark.Has ks ≡ mark.Unreached = sym e ∙ f in cc)

  pub reach_marked : (i : ℕ) (ms : List Mark) → IsMarked commands h i ms → (p : ℕ) → p ≤ i → Reachable h.code p →
      mark_at ms p ≢ mark.Unreached
  reach_marked i ms marked p le (first lt) = been_there (mark_at ms 0) [] marked.root
  reach_marked i ms marked q le (onward {p = p} r f) =
      let lt : p < i = omega (arith, le, f.later) in
      let l = marked.looked p lt (reach_marked i ms marked p (omega (arith, lt)) r) in
      let same : f.instr ≡ l.instr = cc (f.at, l.at) in
      been_there (mark_at ms q) l.after (l.flows q (exit_of h.code p q l.instr f same))

  -- a place that can't be reached was looked at
  pub skipped : (i : ℕ) (ms : List Mark) → IsMarked commands h i ms → mark_at ms i ≡ mark.Unreached →
      IsMarked commands h (i + 1) ms
  skipped i ms marked e = record {
    size = marked.size;
    root = marked.root;
    reached = marked.reached;
    looked = λ p lt. at_or_other i (λ p. p < i + 1 → mark_at ms p ≢ mark.Unreached → Looked commands h ms p)
        (λ lt ne. absurd (ne e)) (λ p other lt ne. marked.looked p (omega (arith, other, lt)) ne) p lt;
    explained = λ p. explains_on i ms ms (same_marks ms i) p (mark_at ms p) (marked.explained p);
  }

  -- the shape of the place after a `Repeat` is known at its `End`
  pub first_has : (i : ℕ) (ms : List Mark) (ks : List Kind) (q : ℕ) → IsMarked commands h i ms →
      mark_at ms i ≡ mark.Has ks → ComesRound h.code ms i ks → Closes h.code q i → mark_at ms (suc q) ≡ mark.Has ks
  first_has i ms ks q marked e round closes =
      let b = start_before h.code q i closes in
      elim (ℕ_discrete (suc q) i) [
        | yes s ↦ ap (mark_at ms) s ∙ e
        | no d ↦ let lt : suc q < i = omega (arith, b, d) in
            let r = end_adds_none h.code q i closes (here_reached i ms i ks marked e) in
            let l = marked.looked (suc q) lt (reach_marked i ms marked (suc q) (omega (arith, lt)) r) in
            l.has ∙ ap mark.Has (round q l.before closes l.has)
      ]

  -- one more place was looked at
  pub looked_on : (i : ℕ) (ms ns : List Mark) (ks after : List Kind) (instr : Instr) → IsMarked commands h i ms →
      mark_at ms i ≡ mark.Has ks → slice_get h.code i ≡ Some instr → ComesRound h.code ms i ks →
      check commands h i ks instr ≡ Ok after → length ns ≡ length h.code →
      FlowsFrom (exits_of (suc i) instr) ms after ns → IsMarked commands h (i + 1) ns
  looked_on i ms ns ks after instr marked e at round right len f =
      let exits = exits_of (suc i) instr in
      let c = checked commands h i ks after instr right in
      let within : AreWithin exits (length ms) =
      are_within exits (length ms) (λ q x. let l = (c.onward q x).within in let s = marked.size in omega (arith, l, s)) in
      let reach = here_reached i ms i ks marked e in
      let goes : (q : ℕ) → is_exit exits q ≡ true → Follows h.code i q =
      λ q x. follows h.code i q instr at x (c.onward q x) in
      let kept : (r : ℕ) → r ≤ i → mark_at ns r ≡ mark_at ms r =
      carried exits ms ns after within f (λ r m. r ≤ i → m ≡ mark_at ms r)
      (λ q m n x w same le. let lt = (c.onward q x).later in absurd (omega (arith, lt, le))) (λ r le. refl) in
      let grown : (r : ℕ) (a : List Kind) → HasBeen (mark_at ms r) a → HasBeen (mark_at ns r) a =
      carried exits ms ns after within f (λ r m. (a : List Kind) → HasBeen (mark_at ms r) a → HasBeen m a)
      (λ q m n x w g a b. meets_grown m n after a w (g a b)) (λ r a b. b) in
      record {
        size = len;
        root = grown 0 [] marked.root;
        reached = carried exits ms ns after within f (λ r m. m ≢ mark.Unreached → Reachable h.code r)
            (λ q m n x w g ne. onward reach (goes q x)) marked.reached;
        looked = λ p lt ne.
            at_or_other i (λ p. p < i + 1 → mark_at ns p ≢ mark.Unreached → Looked commands h ns p)
            (λ lt ne. record {
              before = ks;
              after = after;
              instr = instr;
              has = kept i (omega arith) ∙ e;
              at = at;
              right = right;
              flows = hit exits ms ns after within f;
              turns = λ q closes.
                  let b = start_before h.code q i closes in
                  kept (suc q) (omega (arith, b)) ∙ first_has i ms ks q marked e round closes;
            })
            (λ p other lt ne.
            let below : p < i = omega (arith, other, lt) in
            let same = kept p (omega (arith, below)) in
            let l = marked.looked p below (λ x. ne (same ∙ x)) in
            record {
              before = l.before;
              after = l.after;
              instr = l.instr;
              has = same ∙ l.has;
              at = l.at;
              right = l.right;
              flows = λ q x. grown q l.after (l.flows q x);
              turns = λ q closes.
                  let b = start_before h.code q p closes in
                  kept (suc q) (omega (arith, b, below)) ∙ l.turns q closes;
            })
            p lt ne;
        explained = carried exits ms ns after within f (Explains commands h (i + 1) ns)
            (λ q m n x w old. meets_explained (i + 1) ns q m n after
            (Sent.flows (omega arith) (kept i (omega arith) ∙ e) (goes q x) right) w old)
            (λ r. explains_on i ms ns kept r (mark_at ms r) (marked.explained r));
      }

  pub shapes_below : (i : ℕ) (ms : List Mark) → IsMarked commands h i ms → HasShapesBelow commands h (shapes_in ms) i
  shapes_below i ms marked =
      let look : (p : ℕ) → Reachable h.code p → p < i → Looked commands h ms p =
      λ p r lt. marked.looked p lt (reach_marked i ms marked p (omega (arith, lt)) r) in
      record {
        start = root_shape (mark_at ms 0) marked.root;
        each = λ p j lt r at.
            let l = look p r lt in
            let same : l.instr ≡ j = cc (at, l.at) in
            record {
              after = l.after;
              is_right = ap (λ ks. check commands h p ks j) (ap shape_in l.has) ∙ ap (check commands h p l.before) (sym same)
                  ∙ l.right;
              flows = λ q below f.
                  let k : f.instr ≡ l.instr = cc (f.at, l.at) in
                  let m = look q (onward r f) below in
                  ap shape_in m.has
                  ∙ been_has (mark_at ms q) l.after m.before (l.flows q (exit_of h.code p q l.instr f k)) m.has;
              turns = λ q closes. ap shape_in l.has ∙ sym (ap shape_in (l.turns q closes));
            };
      }

  -- what was sent comes, and what comes is in the mark
  sent_comes : (i : ℕ) (ms : List Mark) → IsMarked commands h i ms → (q : ℕ) (a : List Kind) → Sent commands h i ms q a →
      Comes commands h (shapes_in ms) q a
  sent_comes i ms marked q a Sent.starts = Comes.starts
  sent_comes i ms marked q a (Sent.flows {p = p} lt has f right) =
      Comes.flows (here_reached i ms p _ marked has) f
      (ap (λ ks. check commands h p ks f.instr) (ap shape_in has) ∙ right)

  comes_has : (i : ℕ) (ms : List Mark) (ks : List Kind) → IsMarked commands h i ms → mark_at ms i ≡ mark.Has ks →
      ComesRound h.code ms i ks → (a : List Kind) → Comes commands h (shapes_in ms) i a → a ≡ ks
  comes_has i ms ks marked e round a Comes.starts = sym (been_has (mark_at ms 0) [] ks marked.root e)
  comes_has i ms ks marked e round a (Comes.flows {p = p} r f right) =
      let lt : p < i = f.later in
      let l = marked.looked p lt (reach_marked i ms marked p (omega (arith, lt)) r) in
      let same : f.instr ≡ l.instr = cc (f.at, l.at) in
      let both : Ok a ≡ Ok l.after =
      sym right ∙ ap (λ ks. check commands h p ks f.instr) (ap shape_in l.has) ∙ ap (check commands h p l.before) same ∙ l.right in
      let one : l.after ≡ a = cc in
      sym (been_has (mark_at ms i) a ks
      (subst (HasBeen (mark_at ms i)) one (l.flows i (exit_of h.code p i l.instr f same))) e)
  comes_has i ms ks marked e round a (Comes.closes {q = q} closes lt) =
      ap shape_in (first_has i ms ks q marked e round closes)

  -- where two shapes differ, the place is the first that is wrong
  pub differs_first : (i : ℕ) (ms : List Mark) → IsMarked commands h i ms → mark_at ms i ≡ mark.Differs →
      IsFirstWrong commands h i defect.ShapesDiffer
  differs_first i ms marked e =
      let x = subst (Explains commands h i ms i) e (marked.explained i) in
      record {
        reachable = marked.reached i (λ f. let g : mark.Differs ≡ mark.Unreached = sym e ∙ f in cc);
        shape = shapes_in ms;
        below = shapes_below i ms marked;
        is_wrong = differ (sent_comes i ms marked i x.0 x.2) (sent_comes i ms marked i x.1 x.3) x.4;
      }

  -- where an `End` has another shape than the place after its `Repeat`, too
  pub round_first : (i : ℕ) (ms : List Mark) (ks : List Kind) → IsMarked commands h i ms →
      mark_at ms i ≡ mark.Has ks → GoesWrong h.code ms i ks → IsFirstWrong commands h i defect.ShapesDiffer
  round_first i ms ks marked e w =
      let sent = subst (Explains commands h i ms i) e (marked.explained i) in
      let b = start_before h.code w.start i w.closes in
      let ne : suc w.start ≢ i = λ s. let f : mark.Has w.shape ≡ mark.Has ks = sym w.has ∙ ap (mark_at ms) s ∙ e in
      let g : w.shape ≡ ks = cc in w.other g in
      let lt : suc w.start < i = omega (arith, b, ne) in
      record {
        reachable = here_reached i ms i ks marked e;
        shape = shapes_in ms;
        below = shapes_below i ms marked;
        is_wrong = differ (Comes.closes w.closes lt) (sent_comes i ms marked i ks sent)
            (λ s. w.other (sym (ap shape_in w.has) ∙ s));
      }

  -- where the check fails, too
  pub fails_first : (i : ℕ) (ms : List Mark) (ks : List Kind) (instr : Instr) (wrong : Defect) →
      IsMarked commands h i ms → mark_at ms i ≡ mark.Has ks → slice_get h.code i ≡ Some instr → ComesRound h.code ms i ks →
      check commands h i ks instr ≡ Err wrong → IsFirstWrong commands h i wrong
  fails_first i ms ks instr wrong marked e at round fault = record {
    reachable = here_reached i ms i ks marked e;
    shape = shapes_in ms;
    below = shapes_below i ms marked;
    is_wrong = fails (λ a c. comes_has i ms ks marked e round a c) at fault;
  }

  -- at the end each reachable place has one shape
  pub all_looked : (ms : List Mark) → IsMarked commands h (length h.code) ms → HasShapes commands h
  all_looked ms marked = (shapes_in ms, shapes_below (length h.code) ms marked)

  pub blank_marked : (n : ℕ) (ms : List Mark) → ms ≡ mark.Has [] ∷ replicate n mark.Unreached →
      length h.code ≡ n + 1 → IsMarked commands h 0 ms
  blank_marked n ms is len = subst (IsMarked commands h 0) (sym is) (record {
    size = omega (arith, len, length-replicate n mark.Unreached);
    root = inl refl;
    reached = reach;
    looked = λ p lt. absurd (omega (arith, lt));
    explained = explain;
  })
    where
      reach : (p : ℕ) → mark_at (mark.Has [] ∷ replicate n mark.Unreached) p ≢ mark.Unreached → Reachable h.code p
      reach zero ne = first (omega (arith, len))
      reach (suc p) ne = absurd (ne (blank_at n p))

      explain : (p : ℕ) →
          Explains commands h 0 (mark.Has [] ∷ replicate n mark.Unreached) p
          (mark_at (mark.Has [] ∷ replicate n mark.Unreached) p)
      explain zero = Sent.starts
      explain (suc p) = subst (Explains commands h 0 (mark.Has [] ∷ replicate n mark.Unreached) (suc p))
          (sym (blank_at n p)) tt
