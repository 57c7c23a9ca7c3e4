-- The list of values of the waiting frames.
use Rattle.std.proofs.Common.{◌≡◌, ◌≤◌, ℕ, ◌+◌, ◌-◌, List, [], ◌∷◌, ◌++◌, length, take, drop, map, refl}
use Rattle.std.proofs.Common.{sym, ap, ◌∙◌, arith}
use Rattle.std.proofs.Common.{length-drop}
use Rattle.std.specs.Prelude.{reverse}
use Rattle.std.specs.List.{All}
use Rattle.std.proofs.lemmas.List.{take-append-drop, take-append-le, drop-append-le, reverse-reverse}
use Rattle.std.proofs.lemmas.List.{length-reverse, length-map}
use Rattle.std.proofs.lemmas.List.{drop-map, take-map, take_all, length-append, length-take, drop-drop}
use Rattle.std.proofs.Math.Seq.{take-append_seam, drop-append_seam}
use Rattle.std.proofs.lemmas.List.Elements.{All-head, All-tail, All-cons, All-nil}
use Rattle.kb_core.specs.declared.arg.Arg.{Arg}
use Rattle.kb_vm.specs.Waiting.{IsSmall, frame_of, frames_of, width, widths}
use Rattle.kb_vm.specs.declared.callers.Waiting.{Waiting}
use Rattle.kb_vm.specs.declared.machine.Frame.{Frame}

-- a frame with other values
with_values : Waiting → List Arg → List Arg → Frame
with_values w args operands = record {
  handler = w.handler;
  args = args;
  place = w.place;
  turns = w.turns;
  left = w.left;
  operands = reverse operands;
}

-- a frame depends only on its own values
frame_before : (w : Waiting) (vs xs : List Arg) → width w ≤ length vs → frame_of w (vs ++ xs) ≡ frame_of w vs
unfolding with_values
frame_before w vs xs le =
    let few : w.args ≤ length vs = omega (arith, le) in
    let behind : w.operands ≤ length (drop w.args vs) = omega (arith, le, length-drop w.args vs) in
    ap (λ ys. with_values w ys (take w.operands (drop w.args (vs ++ xs)))) (take-append-le w.args vs xs few)
    ∙ ap (λ os. with_values w (take w.args vs) (take w.operands os)) (drop-append-le w.args vs xs few)
    ∙ ap (with_values w (take w.args vs)) (take-append-le w.operands (drop w.args vs) xs behind)

-- one more waiting frame at the end
pub frames_on : (ws : List Waiting) (w : Waiting) (vs xs : List Arg) → widths ws ≡ length vs
    → frames_of (ws ++ w ∷ []) (vs ++ xs) ≡ frames_of ws vs ++ frame_of w xs ∷ []
frames_on [] w [] xs e = refl
frames_on [] w (v ∷ vs) xs e = absurd (omega (arith, e))
frames_on (u ∷ ws) w vs xs e =
    let le : width u ≤ length vs = omega (arith, e) in
    let rest : widths ws ≡ length (drop (width u) vs) = omega (arith, e, length-drop (width u) vs) in
    ap (λ f. f ∷ frames_of (ws ++ w ∷ []) (drop (width u) (vs ++ xs))) (frame_before u vs xs le)
    ∙ ap (λ ys. frame_of u vs ∷ frames_of (ws ++ w ∷ []) ys) (drop-append-le (width u) vs xs le)
    ∙ ap (λ fs. frame_of u vs ∷ fs) (frames_on ws w (drop (width u) vs) xs rest)

pub widths_on : (ws : List Waiting) (w : Waiting) → widths (ws ++ w ∷ []) ≡ widths ws + width w
widths_on [] w = omega arith
widths_on (u ∷ ws) w = omega (arith, widths_on ws w)

-- a frame with only its own values in the list
pub frame_alone : (w : Waiting) (args operands : List Arg) → w.args ≡ length args → w.operands ≡ length operands
    → frame_of w (args ++ reverse operands) ≡ record {
      handler = w.handler;
      args = args;
      place = w.place;
      turns = w.turns;
      left = w.left;
      operands = operands;
    }
unfolding with_values
frame_alone w args operands a o =
    let all : length (reverse operands) ≤ w.operands = omega (arith, length-reverse operands, o) in
    ap (λ n. with_values w (take n (args ++ reverse operands)) (take w.operands (drop w.args (args ++ reverse operands)))) a
    ∙ ap (λ xs. with_values w xs (take w.operands (drop w.args (args ++ reverse operands)))) (take-append_seam args (reverse operands))
    ∙ ap (λ n. with_values w args (take w.operands (drop n (args ++ reverse operands)))) a
    ∙ ap (λ os. with_values w args (take w.operands os)) (drop-append_seam args (reverse operands))
    ∙ ap (with_values w args) (take_all w.operands (reverse operands) all)
    ∙ ap (λ os. record { handler = w.handler; args = args; place = w.place; turns = w.turns; left = w.left; operands = os }) (reverse-reverse operands)

-- the innermost waiting frame
pub frames_back : (ws : List Waiting) (w : Waiting) (vs : List Arg) → widths (ws ++ w ∷ []) ≡ length vs
    → frames_of (ws ++ w ∷ []) vs
    ≡ frames_of ws (take (length vs - width w) vs) ++ frame_of w (drop (length vs - width w) vs) ∷ []
frames_back ws w vs e =
    let n = length vs - width w in
    let size : widths ws ≡ length (take n vs) = omega (arith, e, widths_on ws w, length-take n vs) in
    ap (frames_of (ws ++ w ∷ [])) (sym (take-append-drop n vs)) ∙ frames_on ws w (take n vs) (drop n vs) size

-- a frame is added, with its values at the end of the list
pub suspended : (ws new : List Waiting) (vs now : List Arg) (f : Frame) (a o : ℕ) → widths ws ≡ length vs
    → new ≡ ws ++ record { handler = f.handler; place = f.place; turns = f.turns; left = f.left; args = a; operands = o } ∷ []
    → now ≡ vs ++ (f.args ++ reverse f.operands) → a ≡ length f.args → o ≡ length f.operands
    → frames_of new now ≡ frames_of ws vs ++ f ∷ []
suspended ws new vs now f a o size more behind is_a is_o =
    let w : Waiting = record { handler = f.handler; place = f.place; turns = f.turns; left = f.left; args = a; operands = o } in
    ap (λ us. frames_of us now) more
    ∙ ap (frames_of (ws ++ w ∷ [])) behind
    ∙ frames_on ws w vs (f.args ++ reverse f.operands) size
    ∙ ap (λ g. frames_of ws vs ++ g ∷ []) (frame_alone w f.args f.operands is_a is_o)

pub suspended_size : (ws new : List Waiting) (w : Waiting) (vs now args operands : List Arg) → widths ws ≡ length vs
    → new ≡ ws ++ w ∷ [] → now ≡ vs ++ (args ++ reverse operands) → w.args ≡ length args
    → w.operands ≡ length operands → widths new ≡ length now
suspended_size ws new w vs now args operands size more behind is_a is_o =
    let n : length now ≡ length vs + (length args + length operands) =
    ap length behind ∙ length-append vs (args ++ reverse operands)
    ∙ ap (λ k. length vs + k) (length-append args (reverse operands) ∙ ap (λ k. length args + k) (length-reverse operands)) in
    ap widths more ∙ widths_on ws w ∙ sym (n ∙ omega (arith, size, is_a, is_o))

-- the values of the innermost frame are in the list
pub last_within : (us ws : List Waiting) (w : Waiting) (vs : List Arg) → us ≡ ws ++ w ∷ [] → widths us ≡ length vs
    → width w ≤ length vs
last_within us ws w vs is size = omega (arith, widths_on ws w, ap widths is, size)

pub resumed_size : (us ws : List Waiting) (w : Waiting) (vs now : List Arg) → us ≡ ws ++ w ∷ []
    → widths us ≡ length vs → now ≡ take (length vs - width w) vs → widths ws ≡ length now
resumed_size us ws w vs now is size kept =
    omega (arith, widths_on ws w, ap widths is, size, ap length kept, length-take (length vs - width w) vs)

-- the innermost frame continues with the last values of the list
pub resumed : (us ws : List Waiting) (w : Waiting) (vs now args operands : List Arg) → us ≡ ws ++ w ∷ []
    → widths us ≡ length vs → now ≡ take (length vs - width w) vs
    → args ≡ take w.args (drop (length vs - width w) vs)
    → operands ≡ reverse (take w.operands (drop w.args (drop (length vs - width w) vs)))
    → frames_of us vs ≡ frames_of ws now ++ record {
      handler = w.handler;
      args = args;
      place = w.place;
      turns = w.turns;
      left = w.left;
      operands = operands;
    } ∷ []
resumed us ws w vs now args operands is size kept is_a is_o =
    let last : List Arg → List Arg → Frame = λ xs ys. record { handler = w.handler; args = xs; place = w.place; turns = w.turns; left = w.left; operands = ys } in
    ap (λ xs. frames_of xs vs) is
    ∙ frames_back ws w vs (sym (ap widths is) ∙ size)
    ∙ ap (λ xs. frames_of ws xs ++ frame_of w (drop (length vs - width w) vs) ∷ []) (sym kept)
    ∙ ap (λ xs. frames_of ws now ++ last xs (reverse (take w.operands (drop w.args (drop (length vs - width w) vs)))) ∷ []) (sym is_a)
    ∙ ap (λ ys. frames_of ws now ++ last args ys ∷ []) (sym is_o)

pub all_but_last : (ws : List Waiting) (w : Waiting) → All IsSmall (ws ++ w ∷ []) → All IsSmall ws
all_but_last [] w all = All-nil IsSmall
all_but_last (u ∷ ws) w all =
    All-cons IsSmall u ws (All-head IsSmall u (ws ++ w ∷ []) all) (all_but_last ws w (All-tail IsSmall u (ws ++ w ∷ []) all))

pub last_of_all : (ws : List Waiting) (w : Waiting) → All IsSmall (ws ++ w ∷ []) → IsSmall w
last_of_all [] w all = All-head IsSmall w [] all
last_of_all (u ∷ ws) w all = last_of_all ws w (All-tail IsSmall u (ws ++ w ∷ []) all)

-- the end of a list that is mapped
module _ {X Y : Type 0} (f : X → Y) (xs : List X) (a o : ℕ) where
  abbrev n : ℕ
  n = length (map f xs) - (a + o)

  pub last_operands : (behind : ℕ) → a + o ≤ length (map f xs) → behind ≡ length xs - o
      → map f (take (length xs - behind) (drop behind xs)) ≡ take o (drop a (drop n (map f xs)))
  last_operands behind le is =
      let same = length-map xs f in
      let size : length xs - behind ≡ o = omega (arith, same, le, is) in
      let at : behind ≡ n + a = omega (arith, same, le, is) in
      sym (take-map f (length xs - behind) (drop behind xs))
      ∙ ap (take (length xs - behind)) (sym (drop-map f behind xs))
      ∙ ap (λ m. take m (drop behind (map f xs))) size
      ∙ ap (λ m. take o (drop m (map f xs))) at
      ∙ ap (take o) (sym (drop-drop a n (map f xs)))

  pub last_args : (first behind : ℕ) → a + o ≤ length (map f xs) → behind ≡ length xs - o → first ≡ behind - a
      → map f (take (behind - first) (drop first xs)) ≡ take a (drop n (map f xs))
  last_args first behind le is to =
      let same = length-map xs f in
      let size : behind - first ≡ a = omega (arith, same, le, is, to) in
      let at : first ≡ n = omega (arith, same, le, is, to) in
      sym (take-map f (behind - first) (drop first xs))
      ∙ ap (take (behind - first)) (sym (drop-map f first xs))
      ∙ ap (λ m. take m (drop first (map f xs))) size
      ∙ ap (λ m. take a (drop m (map f xs))) at

  pub first_kept : (first behind : ℕ) → a + o ≤ length (map f xs) → behind ≡ length xs - o → first ≡ behind - a
      → map f (take first xs) ≡ take n (map f xs)
  first_kept first behind le is to =
      let same = length-map xs f in
      let at : first ≡ n = omega (arith, same, le, is, to) in
      sym (take-map f first xs) ∙ ap (λ m. take m (map f xs)) at
