-- Lemmas on lines as one text: adding a line, truncating, and cutting out one line or all lines from an
-- index on.
use Rattle.std.proofs.Common.{◌≡◌, ℕ, ◌+◌, ◌-◌, ◌<◌, ◌≤◌, zero, suc, List, [], ◌∷◌, ◌++◌, refl, sym, ap, ◌∙◌}
use Rattle.std.proofs.Common.{append_assoc, append-nil, length, take, drop, get_or, subst, arith}
use Rattle.std.specs.Prelude.{Some, slice_get}
use Rattle.std.specs.Str.{IsUtf8}
use Rattle.std.specs.List.{All}
use Rattle.std.proofs.lemmas.Grind.{flat_map-append}
use Rattle.std.proofs.Common.{add-one, zero-add}
use Rattle.std.proofs.lemmas.List.{get_or_default, take-append-drop, length-append, take_more, drop_more}
use Rattle.std.proofs.lemmas.List.Elements.{All-append, All-take, All-cons, All-nil}
use Rattle.std.proofs.lemmas.Option.{slice_get-get_or, slice_get_within, get_or_from_slice_get}
use Rattle.std.proofs.Math.Seq.{take-append_seam, drop-append_seam}
use Rattle.kb_stream.specs.Lines.{cut_at, ends_of, AreLines}
use Rattle.kb_stream.specs.Writing.{text_of_lines}

pub text_of_lines-append : (xs ys : List (List ℕ))
    → text_of_lines (xs ++ ys) ≡ text_of_lines xs ++ text_of_lines ys
text_of_lines-append xs ys = flat_map-append (λ (line : List ℕ). line ++ 10 ∷ []) xs ys

-- the first lines and the others
text_cut : (n : ℕ) (ls : List (List ℕ))
    → text_of_lines ls ≡ text_of_lines (take n ls) ++ text_of_lines (drop n ls)
text_cut n ls = ap text_of_lines (sym (take-append-drop n ls)) ∙ text_of_lines-append (take n ls) (drop n ls)

text_front : (n : ℕ) (ls : List (List ℕ))
    → take (length (text_of_lines (take n ls))) (text_of_lines ls) ≡ text_of_lines (take n ls)
text_front n ls =
    ap (take (length (text_of_lines (take n ls)))) (text_cut n ls)
    ∙ take-append_seam (text_of_lines (take n ls)) (text_of_lines (drop n ls))

pub text_behind : (n : ℕ) (ls : List (List ℕ))
    → drop (length (text_of_lines (take n ls))) (text_of_lines ls) ≡ text_of_lines (drop n ls)
text_behind n ls =
    ap (drop (length (text_of_lines (take n ls)))) (text_cut n ls)
    ∙ drop-append_seam (text_of_lines (take n ls)) (text_of_lines (drop n ls))

ends_of-push : (s : ℕ) (ls : List (List ℕ)) (line : List ℕ)
    → ends_of s (ls ++ line ∷ []) ≡ ends_of s ls ++ (s + length (text_of_lines (ls ++ line ∷ []))) ∷ []
ends_of-push s [] line =
    let e : s + length line + 1 ≡ s + length ((line ++ 10 ∷ []) ++ []) = simp length-append (omega arith) in
    ap (λ (n : ℕ). n ∷ []) e
ends_of-push s (l ∷ ls) line =
    let t = s + length l + 1 in
    let e : t + length (text_of_lines (ls ++ line ∷ [])) ≡ s + length
    ((l ++ 10 ∷ []) ++ text_of_lines (ls ++ line ∷ [])) =
    simp length-append (omega arith) in
    ap (λ (es : List ℕ). t ∷ es) (ends_of-push t ls line ∙ ap (λ (n : ℕ). ends_of t ls ++ n ∷ []) e)

ends_of-take : (s n : ℕ) (ls : List (List ℕ)) → take n (ends_of s ls) ≡ ends_of s (take n ls)
ends_of-take s zero ls = refl
ends_of-take s (suc n) [] = refl
ends_of-take s (suc n) (l ∷ ls) = ap (λ (es : List ℕ). (s + length l + 1) ∷ es)
    (ends_of-take (s + length l + 1) n ls)

ends_of-length : (s : ℕ) (ls : List (List ℕ)) → length (ends_of s ls) ≡ length ls
ends_of-length s [] = refl
ends_of-length s (l ∷ ls) = ap suc (ends_of-length (s + length l + 1) ls)

-- where the line at a place begins
ends_of-start : (s n : ℕ) (ls : List (List ℕ)) → n ≤ length ls
    → get_or (s ∷ ends_of s ls) n 0 ≡ s + length (text_of_lines (take n ls))
ends_of-start s zero ls h = omega arith
ends_of-start s (suc n) [] h = absurd (omega arith)
ends_of-start s (suc n) (l ∷ ls) h =
    let t = s + length l + 1 in
    let e : t + length (text_of_lines (take n ls)) ≡ s + length
    ((l ++ 10 ∷ []) ++ text_of_lines (take n ls)) =
    simp length-append (omega arith) in
    ends_of-start t n ls (omega arith) ∙ e

cut_made : (s : ℕ) (ls : List (List ℕ)) → cut_at s (ends_of s ls) (text_of_lines ls) ≡ ls
cut_made s [] = refl
cut_made s (l ∷ ls) =
    let t = s + length l + 1 in
    let all = (l ++ 10 ∷ []) ++ text_of_lines ls in
    let near : t - s - 1 ≡ length l = omega arith in
    let far : t - s ≡ length (l ++ 10 ∷ []) = simp length-append (omega arith) in
    let line : take (t - s - 1) all ≡ l =
    ap (λ (n : ℕ). take n all) near ∙ ap (take (length l)) (append_assoc l (10 ∷ []) (text_of_lines ls))
    ∙ take-append_seam l (10 ∷ text_of_lines ls) in
    let rest : drop (t - s) all ≡ text_of_lines ls =
    ap (λ (n : ℕ). drop n all) far ∙ drop-append_seam (l ++ 10 ∷ []) (text_of_lines ls) in
    ap (λ (x : List ℕ). x ∷ cut_at t (ends_of t ls) (drop (t - s) all)) line
    ∙ ap (λ (r : List ℕ). l ∷ cut_at t (ends_of t ls) r) rest
    ∙ ap (λ (xs : List (List ℕ)). l ∷ xs) (cut_made t ls)

pub seen : (text ends : List ℕ) → (are : AreLines text ends) → cut_at 0 ends text ≡ are.lines
seen text ends are =
    ap (λ (es : List ℕ). cut_at 0 es text) are.ends_are ∙ ap (cut_at 0 (ends_of 0 are.lines)) are.text_is
    ∙ cut_made 0 are.lines

-- what a text and places hold whose lines are these
pub record Hold (text ends : List ℕ) (lines : List (List ℕ)) : Type 0 where
  pub text_is : text ≡ text_of_lines lines
  pub ends_are : ends ≡ ends_of 0 lines
  pub texts : All IsUtf8 lines
  pub count : length ends ≡ length lines

pub hold : (text ends : List ℕ) (lines : List (List ℕ)) → AreLines text ends → cut_at 0 ends text ≡ lines
    → Hold text ends lines
hold text ends lines are is =
    let same : are.lines ≡ lines = sym (seen text ends are) ∙ is in
    let ends_are : ends ≡ ends_of 0 lines = are.ends_are ∙ ap (ends_of 0) same in
    record {
      text_is = are.text_is ∙ ap text_of_lines same;
      ends_are = ends_are;
      texts = subst (All IsUtf8) same are.texts;
      count = ap length ends_are ∙ ends_of-length 0 lines;
    }

-- no lines
pub none_are : AreLines [] []
none_are = record { lines = []; text_is = refl; ends_are = refl; texts = All-nil IsUtf8 }

from_zero : (text : List ℕ) → length text ≡ 0 + length text
from_zero text = omega arith

-- one more
pub more_are : (text ends line new_text new_ends : List ℕ) → AreLines text ends → IsUtf8 line
    → new_text ≡ (text ++ line) ++ 10 ∷ [] → new_ends ≡ ends ++ length new_text ∷ []
    → AreLines new_text new_ends
more_are text ends line new_text new_ends are utf8 made places =
    let all = are.lines ++ line ∷ [] in
    let is : new_text ≡ text_of_lines all =
    made ∙ append_assoc text line (10 ∷ []) ∙ ap (λ (t : List ℕ). t ++ (line ++ 10 ∷ [])) are.text_is
    ∙ ap (λ (t : List ℕ). text_of_lines are.lines ++ t) (sym (append-nil (line ++ 10 ∷ [])))
    ∙ sym (text_of_lines-append are.lines (line ∷ [])) in
    record {
      lines = all;
      text_is = is;
      ends_are = places ∙ ap (λ (es : List ℕ). es ++ length new_text ∷ []) are.ends_are
          ∙ ap (λ (t : List ℕ). ends_of 0 are.lines ++ length t ∷ []) is
          ∙ ap (λ (n : ℕ). ends_of 0 are.lines ++ n ∷ []) (from_zero (text_of_lines all))
          ∙ sym (ends_of-push 0 are.lines line);
      texts = All-append IsUtf8 are.lines (line ∷ []) are.texts
          (All-cons IsUtf8 line [] utf8 (All-nil IsUtf8));
    }

pub more_seen : (text ends line new_text new_ends : List ℕ) (lines : List (List ℕ)) → AreLines text ends
    → IsUtf8 line
    → new_text ≡ (text ++ line) ++ 10 ∷ [] → new_ends ≡ ends ++ length new_text ∷ []
    → cut_at 0 ends text ≡ lines
    → cut_at 0 new_ends new_text ≡ lines ++ line ∷ []
unfolding more_are
more_seen text ends line new_text new_ends lines are utf8 made places is =
    seen _ _ (more_are text ends line new_text new_ends are utf8 made places)
    ∙ ap (λ (ls : List (List ℕ)). ls ++ line ∷ []) (sym (seen text ends are) ∙ is)

-- the first of other lines, and the next of them
pub next_added : (old now new more : List (List ℕ)) (i : ℕ) (line : List ℕ) → now ≡ old ++ take i more
    → slice_get more i ≡ Some line → new ≡ now ++ line ∷ [] → new ≡ old ++ take (i + 1) more
next_added old now new more i line before at is =
    is ∙ ap (λ (ls : List (List ℕ)). ls ++ line ∷ []) before ∙ append_assoc old (take i more) (line ∷ [])
    ∙ ap (λ (l : List ℕ). old ++ (take i more ++ l ∷ [])) (sym (get_or_from_slice_get more i line [] at))
    ∙ ap (λ (ls : List (List ℕ)). old ++ ls) (sym (take_more more i [] (slice_get_within more i line at)))

-- fewer
pub fewer_are : (text ends : List ℕ) (lines : List (List ℕ)) (n end : ℕ) → Hold text ends lines
    → end ≡ length (text_of_lines (take n lines))
    → AreLines (take end text) (take n ends)
fewer_are text ends lines n end h e = record {
  lines = take n lines;
  text_is = rw (e, h.text_is) (text_front n lines);
  ends_are = ap (take n) h.ends_are ∙ ends_of-take 0 n lines;
  texts = All-take IsUtf8 n lines h.texts;
}

pub fewer_seen : (text ends : List ℕ) (lines : List (List ℕ)) (n end : ℕ) → Hold text ends lines
    → end ≡ length (text_of_lines (take n lines))
    → cut_at 0 (take n ends) (take end text) ≡ take n lines
unfolding fewer_are
fewer_seen text ends lines n end h e = seen _ _ (fewer_are text ends lines n end h e)

-- a place in the text
pub start_within : (n : ℕ) (ls : List (List ℕ))
    → length (text_of_lines (take n ls)) ≤ length (text_of_lines ls)
start_within n ls =
    let e = ap length (text_cut n ls) in
    omega (arith, e, length-append {A = ℕ})

next_start : (i : ℕ) (ls : List (List ℕ)) → i < length ls
    → length (text_of_lines (take (i + 1) ls)) ≡ length (text_of_lines (take i ls)) + length
    (get_or ls i []) + 1
next_start i ls h =
    let line = get_or ls i [] in
    let e : text_of_lines (take (i + 1) ls) ≡ text_of_lines (take i ls) ++ ((line ++ 10 ∷ []) ++ []) =
    ap text_of_lines (take_more ls i [] h) ∙ text_of_lines-append (take i ls) (line ∷ []) in
    ap length e ∙ simp length-append (omega arith)

line_is : (i : ℕ) (ls : List (List ℕ)) → i < length ls
    → take (length (get_or ls i []))
    (drop (length (text_of_lines (take i ls))) (text_of_lines ls)) ≡ get_or ls i []
line_is i ls h =
    let line = get_or ls i [] in
    ap (take (length line)) (text_behind i ls ∙ ap text_of_lines (drop_more ls i [] h)
    ∙ append_assoc line (10 ∷ []) (text_of_lines (drop (i + 1) ls)))
    ∙ take-append_seam line (10 ∷ text_of_lines (drop (i + 1) ls))

-- the line at a place, by where it and the next begin
pub record IsLineAt (ls : List (List ℕ)) (i start next : ℕ) : Type 0 where
  pub some : start < next
  pub line : take (next - 1 - start) (drop start (text_of_lines ls)) ≡ get_or ls i []
  pub found : slice_get ls i ≡ Some (get_or ls i [])

pub line_at : (ls : List (List ℕ)) (i start next : ℕ) → i < length ls
    → start ≡ length (text_of_lines (take i ls)) → next ≡ length (text_of_lines (take (i + 1) ls))
    → IsLineAt ls i start next
line_at ls i start next h e f =
    let g = next_start i ls h in
    let n : next - 1 - start ≡ length (get_or ls i []) = omega arith in
    record {
      some = omega arith;
      line = rw (n, e) (line_is i ls h);
      found = slice_get-get_or ls i [] h;
    }

-- the place behind a line feed that is held
pub held_start : (text ends : List ℕ) (lines : List (List ℕ)) (n d : ℕ) → Hold text ends lines
    → n < length ends
    → get_or ends n d ≡ length (text_of_lines (take (n + 1) lines))
held_start text ends lines n d h some =
    let below : n + 1 ≤ length lines = omega (arith, h.count) in
    let here : n < length (ends_of 0 lines) = omega (arith, h.count, ends_of-length 0 lines) in
    ap (λ (es : List ℕ). get_or es n d) h.ends_are ∙ get_or_default (ends_of 0 lines) n d 0 here
    ∙ ap (λ (k : ℕ). get_or (0 ∷ ends_of 0 lines) k 0) (sym (add-one n))
    ∙ ends_of-start 0 (n + 1) lines below ∙ zero-add (length (text_of_lines (take (n + 1) lines)))
