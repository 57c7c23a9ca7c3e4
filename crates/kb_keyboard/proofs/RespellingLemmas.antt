-- Codes between brackets, and the words of a key text.
use Rattle.std.proofs.Common.{◌≡◌, ◌∙◌, ◌+◌, ◌-◌, ◌<◌, ◌≤◌, ◌++◌, ℕ, Bool, true, false, List, [], ◌∷◌, ap, arith, drop, get_or, length, refl, subst, sym, take}
use Rattle.std.proofs.Common.{add-one, append_assoc}
use Rattle.std.specs.Prelude.{slice_index, slice_range, ◌==◌, ◌&&◌, nat_le}
use Rattle.std.specs.Str.{IsCharBoundary, IsUtf8}
use Rattle.std.proofs.Math.Seq.{drop-cons}
use Rattle.std.proofs.lemmas.Bool.Decides.{nat_tests}
use Rattle.std.proofs.lemmas.List.{drop_all, get_or-drop, length-drop, take_all, take_more}
use Rattle.std.proofs.lemmas.Str.{IsCharBoundary-after_ascii, IsCharBoundary-before_ascii}
use Rattle.kb_keyboard.specs.declared.layout.LayoutKey.{LayoutKey}
use Rattle.kb_keyboard.specs.Respelling.{has_code, is_separator, new_word, respelled_from, shifted_behind}

parts : (n a b : ℕ) → ((nat_le 3 n && (a == 91)) && (b == 93)) ≡ true → (3 ≤ n) × (a ≡ 91) × (b ≡ 93)
parts n a b e = (grind (arith, nat_tests), grind (arith, nat_tests), grind (arith, nat_tests))

pub with_code : (word : List ℕ) → has_code word ≡ true
    → (3 ≤ length word) × (slice_index word 0 ≡ 91) × (slice_index word (length word - 1) ≡ 93)
unfolding has_code
with_code word e = parts (length word) (slice_index word 0) (slice_index word (length word - 1)) e

pub code_begins : (word : List ℕ) → IsUtf8 word → has_code word ≡ true → IsCharBoundary word 1
code_begins word u e =
    let k = with_code word e in
    let from : 0 + 1 ≡ 1 = refl in
    subst (IsCharBoundary word) from
    (IsCharBoundary-after_ascii word 0 u (omega (arith, k.0)) (omega (arith, k.1)))

pub code_ends : (word : List ℕ) → has_code word ≡ true → IsCharBoundary word (length word - 1)
code_ends word e =
    let k = with_code word e in
    IsCharBoundary-before_ascii word (length word - 1) (omega (arith, k.0)) (omega (arith, k.2))

-- ---- words

separator_is : (b : ℕ) → is_separator b ≡ true → b < 128
separator_is b e = grind (arith, nat_tests)

pub word_begins : (text : List ℕ) (at byte : ℕ) → IsUtf8 text → at < length text → byte ≡ slice_index text at
    → is_separator byte ≡ true → IsCharBoundary text (at + 1)
word_begins text at byte u l b e = IsCharBoundary-after_ascii text at u l (subst (λ n. n < 128) b (separator_is byte e))

first_of : (text : List ℕ) (at : ℕ) → at < length text
    → drop at text ≡ slice_index text at ∷ drop (at + 1) text
first_of text at l = rw add-one (drop-cons text at 0 l)

one_byte : (text : List ℕ) (at : ℕ) → at < length text → slice_range text at (at + 1) ≡ slice_index text at ∷ []
one_byte text at l =
    let n : at + 1 - at ≡ 1 = omega arith in
    ap (λ k. take k (drop at text)) n ∙ ap (take 1) (first_of text at l)

no_byte : (text : List ℕ) (at : ℕ) → slice_range text at at ≡ []
no_byte text at = let n : at - at ≡ 0 = omega arith in ap (λ k. take k (drop at text)) n

-- one byte more of a word
longer : (text : List ℕ) (begin at : ℕ) → begin ≤ at → at < length text
    → slice_range text begin at ++ slice_index text at ∷ [] ≡ slice_range text begin (at + 1)
longer text begin at l m =
    let n : begin + (at - begin) ≡ at = omega arith in
    let more : at - begin + 1 ≡ at + 1 - begin = omega arith in
    let byte : get_or (drop begin text) (at - begin) 0 ≡ slice_index text at =
    get_or-drop begin text (at - begin) 0 ∙ ap (slice_index text) n in
    ap (λ (b : ℕ). take (at - begin) (drop begin text) ++ b ∷ []) (sym byte)
    ∙ sym (take_more (drop begin text) (at - begin) 0 (rw length-drop (omega (arith, l, m))))
    ∙ ap (λ k. take k (drop begin text)) more

module _ (keys : List LayoutKey) (text : List ℕ) (shifted : Bool) (begin at : ℕ) (low : begin ≤ at)
    (high : at < length text) where
  -- a byte inside a word
  in_word : is_separator (slice_index text at) ≡ false
      → respelled_from keys shifted (slice_range text begin (at + 1)) (drop (at + 1) text)
      ≡ respelled_from keys shifted (slice_range text begin at) (drop at text)
  in_word e = rw (first_of text at high, e)
      (ap (λ (word : List ℕ). respelled_from keys shifted word (drop (at + 1) text)) (sym (longer text begin at low high)))

  here : is_separator (slice_index text at) ≡ true
      → respelled_from keys shifted (slice_range text begin at) (drop at text)
      ≡ new_word keys shifted (slice_range text begin at) ++ slice_index text at
      ∷ respelled_from keys (shifted_behind shifted (slice_range text begin at) (slice_index text at)) []
      (drop (at + 1) text)
  here e = rw (first_of text at high, e) refl

  -- a separator, and the word before it
  behind_word : (made : List ℕ) → is_separator (slice_index text at) ≡ true
      → ((made ++ new_word keys shifted (slice_range text begin at)) ++ slice_range text at (at + 1))
      ++ respelled_from keys (shifted_behind shifted (slice_range text begin at) (slice_index text at))
      (slice_range text (at + 1) (at + 1)) (drop (at + 1) text)
      ≡ made ++ respelled_from keys shifted (slice_range text begin at) (drop at text)
  behind_word made e =
      let word = slice_range text begin at in
      let byte = slice_index text at in
      let shifted' = shifted_behind shifted word byte in
      let tail = respelled_from keys shifted' [] (drop (at + 1) text) in
      let one : slice_range text at (at + 1) ≡ byte ∷ [] = one_byte text at high in
      let none : slice_range text (at + 1) (at + 1) ≡ [] = no_byte text (at + 1) in
      ap (λ (bs : List ℕ). ((made ++ new_word keys shifted word) ++ bs)
      ++ respelled_from keys shifted' (slice_range text (at + 1) (at + 1)) (drop (at + 1) text)) one
      ∙ ap (λ (w : List ℕ). ((made ++ new_word keys shifted word) ++ byte ∷ [])
      ++ respelled_from keys shifted' w (drop (at + 1) text)) none
      ∙ append_assoc (made ++ new_word keys shifted word) (byte ∷ []) tail
      ∙ append_assoc made (new_word keys shifted word) (byte ∷ tail)
      ∙ ap (λ (bs : List ℕ). made ++ bs) (sym (here e))

pub past_byte : (keys : List LayoutKey) (text : List ℕ) (shifted : Bool) (begin at byte : ℕ) → begin ≤ at
    → at < length text → byte ≡ slice_index text at → is_separator byte ≡ false
    → respelled_from keys shifted (slice_range text begin (at + 1)) (drop (at + 1) text)
    ≡ respelled_from keys shifted (slice_range text begin at) (drop at text)
past_byte keys text shifted begin at byte low high b e =
    in_word keys text shifted begin at low high (subst (λ n. is_separator n ≡ false) b e)

pub past_word : (keys : List LayoutKey) (text : List ℕ) (shifted shifted' : Bool) (begin at byte : ℕ)
    (made made' word new piece : List ℕ) → begin ≤ at → at < length text → byte ≡ slice_index text at
    → is_separator byte ≡ true → word ≡ slice_range text begin at → piece ≡ slice_range text at (at + 1)
    → new ≡ new_word keys shifted word → shifted' ≡ shifted_behind shifted word byte
    → made' ≡ (made ++ new) ++ piece
    → made' ++ respelled_from keys shifted' (slice_range text (at + 1) (at + 1)) (drop (at + 1) text)
    ≡ made ++ respelled_from keys shifted (slice_range text begin at) (drop at text)
past_word keys text shifted shifted' begin at byte made made' word new piece low high b e w p n s m =
    let r = slice_range text (at + 1) (at + 1) in
    let d = drop (at + 1) text in
    let sep : is_separator (slice_index text at) ≡ true = subst (λ k. is_separator k ≡ true) b e in
    let new_is : new ≡ new_word keys shifted (slice_range text begin at) = n ∙ ap (new_word keys shifted) w in
    let shifted_is : shifted' ≡ shifted_behind shifted (slice_range text begin at) (slice_index text at) =
    s ∙ ap (λ (x : List ℕ). shifted_behind shifted x byte) w
    ∙ ap (λ (k : ℕ). shifted_behind shifted (slice_range text begin at) k) b in
    let made_is : made' ≡ (made ++ new_word keys shifted (slice_range text begin at)) ++ slice_range text at (at + 1) =
    m ∙ ap (λ (x : List ℕ). (made ++ x) ++ piece) new_is
    ∙ ap (λ (x : List ℕ). (made ++ new_word keys shifted (slice_range text begin at)) ++ x) p in
    ap (λ (x : List ℕ). x ++ respelled_from keys shifted' r d) made_is
    ∙ ap (λ (t : Bool). ((made ++ new_word keys shifted (slice_range text begin at)) ++ slice_range text at (at + 1))
    ++ respelled_from keys t r d) shifted_is
    ∙ behind_word keys text shifted begin at low high made sep

whole_rest : (text : List ℕ) (begin at : ℕ) → begin ≤ at → length text ≤ at
    → slice_range text begin (length text) ≡ slice_range text begin at
whole_rest text begin at low high =
    take_all (length text - begin) (drop begin text) (rw length-drop (omega arith))
    ∙ sym (take_all (at - begin) (drop begin text) (rw length-drop (omega arith)))

pub last_word : (keys : List LayoutKey) (text : List ℕ) (shifted : Bool) (begin at : ℕ) → begin ≤ at
    → length text ≤ at
    → new_word keys shifted (slice_range text begin (length text))
    ≡ respelled_from keys shifted (slice_range text begin at) (drop at text)
last_word keys text shifted begin at low high =
    rw (drop_all at text high) (ap (new_word keys shifted) (whole_rest text begin at low high))
