-- Lemmas on the modifiers at the beginning of a text, and on equal keystrokes.
use Rattle.std.proofs.Common.{◌≡◌, ℕ, ◌+◌, ◌<◌, ◌≤◌, List, [], ◌∷◌, false, Option, None, Some, refl, ap, sym}
use Rattle.std.proofs.Common.{◌∙◌, arith, rules, tests, drop, take, length, option_map, position}
use Rattle.std.specs.Bool.{Decides}
use Rattle.std.specs.List.{All, position_or_len, slice_split, before_first, after_first}
use Rattle.std.specs.Str.{IsUtf8}
use Rattle.std.proofs.lemmas.List.{length-take-le}
use Rattle.std.proofs.lemmas.List.Splits.{slice_split_first, slice_split_none, length-slice_split}
use Rattle.std.proofs.lemmas.List.Sums.{fails_before_first}
use Rattle.kb_keys.specs.declared.keystroke.Keystroke.{Keystroke}
use Rattle.kb_keys.specs.declared.modifier.Modifier.{Modifier}
use Rattle.kb_keys.specs.declared.modifiers.Modifiers.{Modifiers}
use Rattle.kb_keys.specs.Modifier.{first_modifier, modifier_before, modifier_named, is_sign}
use Rattle.kb_keys.specs.Modifiers.{no_modifiers, with_modifier}
use Rattle.kb_keys.specs.Keystroke.{Split, split_of, split_word, modifier_in, same_stroke}
use Rattle.kb_keys.proofs.ModifiersLemmas.{union, union-with, union-none}

pub same_stroke-Decides : (a b : Keystroke) → Decides (same_stroke a b) (a ≡ b)
same_stroke-Decides a b = (λ h. search (rules, tests), λ e. search (rules, tests))

-- where a place is found, it is the first
pub position-Some : (text : List ℕ) (at : ℕ) → position is_sign text ≡ Some at
    → (at ≡ position_or_len is_sign text) × (at < length text)
position-Some text at h = (grind (arith, tests), grind (arith, tests))

pub position-None : (text : List ℕ) → position is_sign text ≡ None
    → length text ≤ position_or_len is_sign text
position-None text h = grind (arith, tests)

-- a sign follows a word where more words do
pub in_words : (word : List ℕ) (words : List (List ℕ)) → 0 < length words
    → modifier_in word words ≡ modifier_named word
in_words word [] h = absurd (omega arith)
in_words word (next ∷ more) h = refl

-- a text with a sign is cut there
pub split_of-at : (text : List ℕ) (at : ℕ) → position is_sign text ≡ Some at
    → split_of text ≡ split_word (modifier_named (take at text)) text (split_of (drop (at + 1) text))
unfolding split_of
split_of-at text at h =
    let found : (at ≡ position_or_len is_sign text) × (at < length text) = position-Some text at h in
    let within : position_or_len is_sign text < length text = omega arith in
    let cut : slice_split is_sign text
    ≡ before_first is_sign text ∷ slice_split is_sign (after_first is_sign text) =
    slice_split_first is_sign text 0 within in
    let more : 0 < length (slice_split is_sign (after_first is_sign text)) =
    omega (arith, length-slice_split is_sign (after_first is_sign text)) in
    let word : modifier_in (before_first is_sign text) (slice_split is_sign (after_first is_sign text))
    ≡ modifier_named (before_first is_sign text) =
    in_words (before_first is_sign text) (slice_split is_sign (after_first is_sign text)) more in
    let long : length (before_first is_sign text) ≡ position_or_len is_sign text =
    length-take-le (position_or_len is_sign text) text (omega arith) in
    rw (found.0, cut, word, long) refl

pub split_of-plain : (text : List ℕ) → position is_sign text ≡ None
    → split_of text ≡ record { mods = no_modifiers; rest = text }
unfolding split_of
split_of-plain text h =
    let none : All (λ byte. is_sign byte ≡ false) text =
    λ k d l. fails_before_first is_sign text k d (omega (arith, position-None text h)) in
    rw (slice_split_none is_sign text none) refl

unnamed : (o : Option Modifier) (rest : List ℕ)
    → option_map (λ (m : Modifier). let p : Modifier × List ℕ = (m, rest) in p) o ≡ None → o ≡ None
unnamed None rest h = refl
unnamed (Some m) rest h = absurd (cc)

abbrev pair : Modifier → List ℕ → Modifier × List ℕ
pair m rest = (m, rest)

named : (o : Option Modifier) (m : Modifier) (rest after : List ℕ)
    → option_map (λ (x : Modifier). let p : Modifier × List ℕ = (x, rest) in p) o ≡ Some (m, after)
    → (o ≡ Some m) × (after ≡ rest)
named None m rest after h = absurd (cc)
named (Some x) m rest after h =
    let e : pair x rest ≡ pair m after = cc in
    (ap (λ (p : Modifier × List ℕ). Some p.0) e, sym (ap (λ (p : Modifier × List ℕ). p.1) e))

-- no modifier comes first: the whole text is the rest
stops : (text : List ℕ) (p : Option ℕ) → position is_sign text ≡ p → modifier_before text p ≡ None
    → split_of text ≡ record { mods = no_modifiers; rest = text }
stops text None e h = split_of-plain text e
stops text (Some at) e h =
    rw (split_of-at text at e, unnamed (modifier_named (take at text)) (drop (at + 1) text) h) refl

-- a modifier comes first: it goes to those after its sign
goes_on : (text : List ℕ) (p : Option ℕ) (m : Modifier) (after : List ℕ) → position is_sign text ≡ p
    → modifier_before text p ≡ Some (m, after)
    → split_of text ≡ record { mods = with_modifier m (split_of after).mods; rest = (split_of after).rest }
goes_on text None m after e h = absurd (cc)
goes_on text (Some at) m after e h =
    let f : (modifier_named (take at text) ≡ Some m) × (after ≡ drop (at + 1) text) =
    named (modifier_named (take at text)) m (drop (at + 1) text) after h in
    rw (split_of-at text at e, f.0, f.1) refl

-- the modifiers so far, and the rest of the text that is still to be read
pub record Reads (text : List ℕ) (mods : Modifiers) (rest : List ℕ) : Type 0 where
  pub is_text : IsUtf8 rest
  pub mods_left : (split_of text).mods ≡ union mods (split_of rest).mods
  pub rest_left : (split_of text).rest ≡ (split_of rest).rest

pub Reads-start : (text : List ℕ) → IsUtf8 text → Reads text no_modifiers text
Reads-start text u = record { is_text = u; mods_left = refl; rest_left = refl }

pub Reads-step : (text rest after : List ℕ) (mods : Modifiers) (m : Modifier) → Reads text mods rest
    → first_modifier rest ≡ Some (m, after) → IsUtf8 after → Reads text (with_modifier m mods) after
Reads-step text rest after mods m h e u =
    let s = goes_on rest (position is_sign rest) m after refl e in
    record {
      is_text = u;
      mods_left = h.mods_left
          ∙ (ap (λ (p : Split). union mods p.mods) s ∙ sym (union-with m mods (split_of after).mods));
      rest_left = h.rest_left ∙ ap (λ (p : Split). p.rest) s;
    }

pub Reads-stop_mods : (text rest : List ℕ) (mods : Modifiers) → Reads text mods rest
    → first_modifier rest ≡ None → mods ≡ (split_of text).mods
Reads-stop_mods text rest mods h e =
    sym (h.mods_left ∙ (ap (λ (p : Split). union mods p.mods) (stops rest (position is_sign rest) refl e)
    ∙ union-none mods))

pub Reads-stop_rest : (text rest : List ℕ) (mods : Modifiers) → Reads text mods rest
    → first_modifier rest ≡ None → rest ≡ (split_of text).rest
Reads-stop_rest text rest mods h e =
    sym (h.rest_left ∙ ap (λ (p : Split). p.rest) (stops rest (position is_sign rest) refl e))
