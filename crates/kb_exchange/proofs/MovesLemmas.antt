-- The last part that begins up to an index, and what is kept.
use Rattle.std.proofs.Common.{◌≡◌, ◌∙◌, ◌+◌, ◌-◌, ◌<◌, ◌≤◌, ℕ, zero, suc, List, [], ◌∷◌, ◌++◌, Bool, true, false}
use Rattle.std.proofs.Common.{Option, Some, None, ap, arith, cond, get_or, leb, ltb, length, refl, subst, sym, ◌⊎◌, inl, inr}
use Rattle.std.proofs.Common.{drop, map}
use Rattle.std.proofs.lemmas.List.{get_or-drop, get_or-take, length-drop, length-take-le, length-append, get_or_append_left}
use Rattle.std.proofs.lemmas.List.{get_or-append_right}
use Rattle.std.specs.Prelude.{slice_index, slice_range}
use Rattle.std.specs.Option.{option_or}
use Rattle.std.specs.List.Sorted.{IsPartitionPoint}
use Rattle.std.proofs.lemmas.Bool.{le-leb, le-ltb, lt-leb, ltb-false}
use borrow.Author.Tests.{ltb-true}
use Rattle.kb_exchange.specs.declared.exchanging.Exchange.{Exchange}
use Rattle.kb_exchange.specs.declared.moves.Move.{Move}
use Rattle.kb_places.specs.declared.span.Span.{Span}
use Rattle.kb_exchange.specs.Exchange.{exchanged, exchanged_from}
use Rattle.kb_exchange.specs.Moves.{AreSorted, IsBehind, KeepsOthers, behind, last_begun, moved, moves_from}
use Rattle.kb_exchange.specs.Moves.{moves_of}
use Rattle.kb_exchange.specs.Span.{AreInOrder, span}
use Rattle.kb_places.specs.Place.{part_of}

told : (t : Bool) → (t ≡ true) ⊎ (t ≡ false)
told true = inl refl
told false = inr refl

-- ---- a partition point is behind the last one

begun : ℕ → Move → Bool
begun index move = leb move.new.begin index

-- the one before a place
before_place : List Move → ℕ → Move → Option Move
before_place moves zero d = None
before_place moves (suc k) d = Some (get_or moves k d)

Splits : List Move → ℕ → ℕ → Type 0
Splits moves index i = IsPartitionPoint (λ m. leb m.new.begin index ≡ true) (λ m. leb m.new.begin index ≡ false) moves i

point_is : (moves : List Move) (index i : ℕ) (d : Move) → i ≤ length moves
    → IsPartitionPoint (λ m. leb m.new.begin index ≡ true) (λ m. leb m.new.begin index ≡ false) moves i
    → last_begun moves index ≡ before_place moves i d
unfolding before_place
point_is [] index zero d fits point = refl
point_is [] index (suc i) d fits point = absurd (omega (arith, fits))
point_is (m ∷ ms) index zero d fits point =
    let fails : leb m.new.begin index ≡ false = point.1 0 m (omega arith) (omega arith) in
    let rest = point_is ms index zero d (omega arith) (
      (λ k d low high. absurd (omega (arith, high))),
      (λ k d low high. point.1 (suc k) d (omega arith) (omega (arith, high))),
    ) in
    ap (λ (o : Option Move). option_or o (cond (leb m.new.begin index) (Some m) None)) rest
    ∙ ap (λ (b : Bool). cond b (Some m) None) fails
point_is (m ∷ ms) index (suc zero) d fits point =
    let holds : leb m.new.begin index ≡ true = point.0 0 m (omega arith) (omega arith) in
    let rest = point_is ms index zero d (omega arith) (
      (λ k d low high. absurd (omega (arith, high))),
      (λ k d low high. point.1 (suc k) d (omega arith) (omega (arith, high))),
    ) in
    ap (λ (o : Option Move). option_or o (cond (leb m.new.begin index) (Some m) None)) rest
    ∙ ap (λ (b : Bool). cond b (Some m) None) holds
point_is (m ∷ ms) index (suc (suc k)) d fits point =
    let rest = point_is ms index (suc k) d (omega (arith, fits)) (
      (λ j d low high. point.0 (suc j) d (omega arith) (omega (arith, high))),
      (λ j d low high. point.1 (suc j) d (omega (arith, low)) (omega (arith, high))),
    ) in
    ap (λ (o : Option Move). option_or o (cond (leb m.new.begin index) (Some m) None)) rest

no_move : Move
no_move = record { old = record { begin = 0; end = 0 }; new = record { begin = 0; end = 0 } }

pub none_begun : (moves : List Move) (index i : ℕ) → i ≡ 0 → i ≤ length moves
    → IsPartitionPoint (λ m. leb m.new.begin index ≡ true) (λ m. leb m.new.begin index ≡ false) moves i
    → None ≡ last_begun moves index
unfolding before_place
none_begun moves index i e fits point =
    sym (point_is moves index i no_move fits point ∙ ap (λ k. before_place moves k no_move) e)

pub some_begun : (moves : List Move) (index i : ℕ) (d : Move) → (i ≡ 0 → ⊥) → i ≤ length moves
    → IsPartitionPoint (λ m. leb m.new.begin index ≡ true) (λ m. leb m.new.begin index ≡ false) moves i
    → Some (get_or moves (i - 1) d) ≡ last_begun moves index
unfolding before_place
some_begun moves index zero d some fits point = absurd (some refl)
some_begun moves index (suc k) d some fits point =
    let e : suc k - 1 ≡ k = omega arith in
    ap (λ j. Some (get_or moves j d)) e ∙ sym (point_is moves index (suc k) d fits point)

-- ---- the moves of exchanges are sorted

module _ (text : List ℕ) where
  least : (at made : ℕ) (es : List Exchange) (j : ℕ) (d : Move) → j < length (moves_from text at made es)
      → made ≤ (get_or (moves_from text at made es) j d).new.begin
  least at made [] j d l = absurd (omega (arith, l))
  least at made (e ∷ es) zero d l = omega arith
  least at made (e ∷ es) (suc j) d l =
      let n = made + length (part_of text (span at e.old.begin)) + length e.text in
      let rest : n ≤ (get_or (moves_from text e.old.end n es) j d).new.begin =
      least e.old.end n es j d (omega (arith, l)) in
      omega (arith, rest)

  sorted : (at made : ℕ) (es : List Exchange) → AreSorted (moves_from text at made es)
  sorted at made [] i j d low high = absurd (omega (arith, high))
  sorted at made (e ∷ es) zero zero d low high = omega arith
  sorted at made (e ∷ es) (suc i) zero d low high = absurd (omega (arith, low))
  sorted at made (e ∷ es) zero (suc j) d low high =
      let n = made + length (part_of text (span at e.old.begin)) + length e.text in
      let rest : n ≤ (get_or (moves_from text e.old.end n es) j d).new.begin =
      least e.old.end n es j d (omega (arith, high)) in
      omega (arith, rest)
  sorted at made (e ∷ es) (suc i) (suc j) d low high =
      sorted e.old.end (made + length (part_of text (span at e.old.begin)) + length e.text) es i j d
      (omega (arith, low)) (omega (arith, high))

  pub are_sorted : (moves : List Move) (es : List Exchange) → moves ≡ moves_of text es → AreSorted moves
  are_sorted moves es e = subst AreSorted (sym e) (sorted 0 0 es)

  none_before : (at made : ℕ) (es : List Exchange) (index : ℕ) → index < made
      → last_begun (moves_from text at made es) index ≡ None
  none_before at made [] index l = refl
  none_before at made (e ∷ es) index l =
      let begin = made + length (part_of text (span at e.old.begin)) in
      let rest = none_before e.old.end (begin + length e.text) es index (omega (arith, l)) in
      ap (λ (o : Option Move). option_or o (cond (leb begin index) (Some (moved e begin)) None)) rest
      ∙ ap (λ (b : Bool). cond b (Some (moved e begin)) None) (lt-leb begin index (omega (arith, l)))

-- ---- what is kept

part_is : (text : List ℕ) (a b : ℕ) → a ≤ b → b ≤ length text
    → part_of text (span a b) ≡ slice_range text a b
unfolding part_of
part_is text a b l m = rw (le-leb a b l, le-leb b (length text) m) refl

part_length : (text : List ℕ) (a b : ℕ) → a ≤ b → b ≤ length text → length (part_of text (span a b)) ≡ b - a
part_length text a b l m =
    ap length (part_is text a b l m) ∙ (length-take-le (b - a) (drop a text) (simp length-drop (omega arith)))

part_at : (text : List ℕ) (a b i : ℕ) → a ≤ b → b ≤ length text → i < b - a
    → slice_index (part_of text (span a b)) i ≡ slice_index text (a + i)
part_at text a b i l m h =
    ap (λ xs. slice_index xs i) (part_is text a b l m)
    ∙ get_or-take (b - a) (drop a text) i 0 h ∙ get_or-drop a text i 0

in_order_ends : (from to : ℕ) (parts : List Span) → AreInOrder from to parts → from ≤ to
in_order_ends from to [] o = o
in_order_ends from to (p ∷ ps) o = let rest = in_order_ends p.end to ps o.2 in omega (arith, o.0, o.1, rest)

or_some : (o prev : Option Move) (m : Move) → option_or (option_or o (Some m)) prev ≡ option_or o (Some m)
or_some None prev m = refl
or_some (Some x) prev m = refl

olds : List Exchange → List Span
olds es = map (λ e. e.old) es

-- what is said of a byte at an index of the new text, of which the last part up to there is this one
abbrev IsKept : List ℕ → List ℕ → ℕ → Option Move → ℕ → Type 0
IsKept text new made last index =
    IsBehind last index
    → (behind last index < length text) × (slice_index new (index - made) ≡ slice_index text (behind last index))

told_below : (a b : ℕ) → (a < b) ⊎ (b ≤ a)
told_below a b = elim (told (ltb a b)) [ inl e ↦ inl (ltb-true a b e) | inr e ↦ inr (ltb-false a b e) ]

module _ (text : List ℕ) where
  -- a byte behind the first new part
  kept_in_rest : (at made : ℕ) (e : Exchange) (es : List Exchange) (index : ℕ) (last : Option Move)
      → made + length (part_of text (span at e.old.begin)) + length e.text ≤ index
      → IsKept text (exchanged_from text e.old.end es)
      (made + length (part_of text (span at e.old.begin)) + length e.text) last index
      → IsKept text (exchanged_from text at (e ∷ es)) made last index
  kept_in_rest at made e es index last l kept =
      let front = part_of text (span at e.old.begin) in
      let rest = exchanged_from text e.old.end es in
      let end = made + length front + length e.text in
      let place : index - made - length front - length e.text ≡ index - end = omega arith in
      let same : slice_index (front ++ (e.text ++ rest)) (index - made) ≡ slice_index rest (index - end) =
      get_or-append_right front (e.text ++ rest) (length front) (index - made) 0 refl (omega (arith, l))
      ∙ get_or-append_right e.text rest (length e.text) (index - made - length front) 0 refl (omega (arith, l))
      ∙ ap (slice_index rest) place in
      λ is_behind. ((kept is_behind).0, same ∙ (kept is_behind).1)

  behind_part : (e : Exchange) (begin index : ℕ) → begin + length e.text ≤ index
      → behind (Some (moved e begin)) index ≡ e.old.end + (index - (begin + length e.text))
  behind_part e begin index l =
      ap (λ (b : Bool). cond b e.old.begin (e.old.end + (index - (begin + length e.text))))
      (le-ltb index (begin + length e.text) l)

  kept_from : (at made : ℕ) (es : List Exchange) (prev : Option Move)
      → AreInOrder at (length text) (map (λ e. e.old) es)
      → ((index : ℕ) → made ≤ index → behind prev index ≡ at + (index - made))
      → (index : ℕ) → made ≤ index → index < made + length (exchanged_from text at es)
      → IsKept text (exchanged_from text at es) made
      (option_or (last_begun (moves_from text at made es) index) prev) index
  kept_from at made [] prev order before index low high =
      let n : length (part_of text (span at (length text))) ≡ length text - at =
      part_length text at (length text) order (omega arith) in
      let e : behind prev index ≡ at + (index - made) = before index low in
      λ is_behind. (
        omega (arith, high, n, e),
        part_at text at (length text) (index - made) order (omega arith) (omega (arith, high, n))
            ∙ ap (slice_index text) (sym e),
      )
  kept_from at made (e ∷ es) prev order before index low high =
      let front = part_of text (span at e.old.begin) in
      let rest = exchanged_from text e.old.end es in
      let begin = made + length front in
      let end = begin + length e.text in
      let moves = moves_from text e.old.end end es in
      let some : Option Move = Some (moved e begin) in
      let ends : e.old.end ≤ length text = in_order_ends e.old.end (length text) (map (λ e. e.old) es) order.2 in
      let fits : e.old.begin ≤ length text = omega (arith, order.1, ends) in
      let n : length front ≡ e.old.begin - at = part_length text at e.old.begin order.0 fits in
      let IsSo : Option Move → Type 0 = λ last. IsKept text (front ++ (e.text ++ rest)) made last index in
      elim (told_below index begin) [
        | inl l ↦ (
            let e0 : option_or (last_begun moves index) (cond (leb begin index) some None) ≡ None =
            ap (λ (o : Option Move). option_or o (cond (leb begin index) some None))
            (none_before text e.old.end end es index (omega (arith, l)))
            ∙ ap (λ (b : Bool). cond b some None) (lt-leb begin index l) in
            let p : behind prev index ≡ at + (index - made) = before index low in
            let same : slice_index (front ++ (e.text ++ rest)) (index - made) ≡ slice_index text (behind prev index) =
            get_or_append_left front (e.text ++ rest) 0 (index - made) (omega (arith, l))
            ∙ part_at text at e.old.begin (index - made) order.0 fits (omega (arith, l, n))
            ∙ ap (slice_index text) (sym p) in
            let kept : IsSo prev = λ is_behind. (omega (arith, p, n, l, fits), same) in
            subst (λ (o : Option Move). IsSo (option_or o prev)) (sym e0) kept
            )
        | inr l ↦ (
            let last = last_begun moves index in
            let e1 : option_or (option_or last (cond (leb begin index) some None)) prev ≡ option_or last some =
            ap (λ (b : Bool). option_or (option_or last (cond b some None)) prev) (le-leb begin index l)
            ∙ or_some last prev (moved e begin) in
            let kept : IsSo (option_or last some) =
            elim (told_below index end) [
              | inl h ↦ subst (λ (o : Option Move). IsSo (option_or o some))
                  (sym (none_before text e.old.end end es index h)) (λ is_behind. absurd (omega (arith, is_behind, h)))
              | inr h ↦ kept_in_rest at made e es index (option_or last some) h
                  (kept_from e.old.end end es some order.2 (λ i. behind_part e begin i) index h
                  (omega (arith, high, length-append front (e.text ++ rest), length-append e.text rest)))
            ] in
            subst IsSo (sym e1) kept
            )
      ]

or_none : (o : Option Move) → option_or o None ≡ o
or_none None = refl
or_none (Some x) = refl

all_kept : (text : List ℕ) (es : List Exchange) → AreInOrder 0 (length text) (map (λ e. e.old) es)
    → KeepsOthers text (exchanged text es) (moves_of text es)
all_kept text es order = λ index high.
    let kept = kept_from text 0 0 es None order (λ i l. omega arith) index (omega arith) (omega (arith, high)) in
    let from : index - 0 ≡ index = omega arith in
    let last = last_begun (moves_of text es) index in
    let Told : Option Move → ℕ → Type 0 = λ o place. IsBehind o index
    → (behind o index < length text)
    × (slice_index (exchanged text es) place ≡ slice_index text (behind o index)) in
    subst (λ (o : Option Move). Told o index) (or_none last)
    (subst (λ place. Told (option_or last None) place) from kept)

pub others_kept : (text new : List ℕ) (moves : List Move) (es : List Exchange) → new ≡ exchanged text es
    → moves ≡ moves_of text es → AreInOrder 0 (length text) (map (λ e. e.old) es) → KeepsOthers text new moves
others_kept text new moves es e m order =
    subst (λ (made : List Move). KeepsOthers text new made) (sym m)
    (subst (λ (made : List ℕ). KeepsOthers text made (moves_of text es)) (sym e) (all_kept text es order))
