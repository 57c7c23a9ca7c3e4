-- The law of parsing a key text (`ReadsFromLeft`).
use Rattle.std.proofs.Common.{◌≡◌, ℕ, ◌+◌, ◌<◌, List, [], ◌∷◌, ◌++◌, true}
use Rattle.std.proofs.Common.{Option, None, Some, refl, sym, arith, drop, take, length, get_or}
use Rattle.std.proofs.Common.{position, append_assoc, length-append}
use Rattle.std.specs.List.{position_or_len, slice_split, before_first, after_first}
use Rattle.std.proofs.Math.Seq.{drop-append_seam}
use Rattle.std.proofs.lemmas.List.Splits.{slice_split_at, length-slice_split}
use Rattle.std.proofs.lemmas.List.Sums.{split_at_first, passes_at_first}
use Rattle.kb_keys.specs.declared.modifier.Modifier.{Modifier}
use Rattle.kb_keys.specs.declared.modifiers.Modifiers.{Modifiers}
use Rattle.kb_keys.specs.KeyName.{key_named}
use Rattle.kb_keys.specs.Modifier.{modifier_named, is_sign}
use Rattle.kb_keys.specs.Modifiers.{no_modifiers, with_modifier}
use Rattle.kb_keys.specs.Keystroke.{split_of, keystroke_of, keystroke_from, with_key, with_held}
use Rattle.kb_keys.specs.Keystroke.{HasNoModifier, ReadsFromLeft}
use Rattle.kb_keys.proofs.KeystrokeLemmas.{in_words, position-Some, split_of-at, split_of-plain}
use Rattle.kb_keys.proofs.ModifierLemmas.{signless}

past_word : (word rest : List ℕ) (sign : ℕ) → drop (length word + 1) (word ++ sign ∷ rest) ≡ rest
past_word word rest sign =
    let whole : word ++ sign ∷ rest ≡ (word ++ sign ∷ []) ++ rest =
    sym (append_assoc word (sign ∷ []) rest) in
    let long : length (word ++ sign ∷ []) ≡ length word + 1 = omega (arith, length-append word (sign ∷ [])) in
    rw (whole, ← long) (drop-append_seam (word ++ sign ∷ []) rest)

split_of-modifier : (word rest : List ℕ) (sign : ℕ) (m : Modifier) → modifier_named word ≡ Some m
    → is_sign sign ≡ true
    → split_of (word ++ sign ∷ rest)
    ≡ record { mods = with_modifier m (split_of rest).mods; rest = (split_of rest).rest }
unfolding split_of
split_of-modifier word rest sign m named signed =
    let cut : slice_split is_sign (word ++ sign ∷ rest) ≡ word ∷ slice_split is_sign rest =
    slice_split_at is_sign word sign rest (signless word m named) signed in
    let more : 0 < length (slice_split is_sign rest) = omega (arith, length-slice_split is_sign rest) in
    rw (cut, in_words word (slice_split is_sign rest) more, named, past_word word rest sign) refl

with_held-from : (m : Modifier) (mods : Modifiers) (rest : List ℕ)
    → keystroke_from (with_modifier m mods) rest ≡ with_held m (keystroke_from mods rest)
with_held-from m mods [] = refl
with_held-from m mods (b ∷ bs) =
    elim (key_named (b ∷ bs)) as
    (λ k. with_key (with_modifier m mods) k ≡ with_held m (with_key mods k)) [ None ↦ refl | Some key ↦ refl ]

keystroke_of-modifier : (word rest : List ℕ) (sign : ℕ) (m : Modifier) → modifier_named word ≡ Some m
    → is_sign sign ≡ true → keystroke_of (word ++ sign ∷ rest) ≡ with_held m (keystroke_of rest)
unfolding keystroke_of
keystroke_of-modifier word rest sign m named signed =
    rw (split_of-modifier word rest sign m named signed)
    (with_held-from m (split_of rest).mods (split_of rest).rest)

split_of-key : (text : List ℕ) (p : Option ℕ) → position is_sign text ≡ p → HasNoModifier text
    → split_of text ≡ record { mods = no_modifiers; rest = text }
split_of-key text None e none = split_of-plain text e
split_of-key text (Some at) e none =
    let found : (at ≡ position_or_len is_sign text) × (at < length text) = position-Some text at e in
    let within : position_or_len is_sign text < length text = omega arith in
    let whole : text ≡ before_first is_sign text
    ++ (get_or text (position_or_len is_sign text) 0 ∷ after_first is_sign text) =
    split_at_first is_sign text 0 within in
    let unnamed : modifier_named (before_first is_sign text) ≡ None =
    none (before_first is_sign text) (after_first is_sign text)
    (get_or text (position_or_len is_sign text) 0) whole (passes_at_first is_sign text 0 within) in
    let word : modifier_named (take at text) ≡ None = rw (found.0) unnamed in
    rw (split_of-at text at e, word) refl

keystroke_of-key : (text : List ℕ) → HasNoModifier text → keystroke_of text ≡ keystroke_from no_modifiers text
unfolding keystroke_of
keystroke_of-key text none = rw (split_of-key text (position is_sign text) refl none) refl

pub reads_from_left : ReadsFromLeft keystroke_of
reads_from_left = record { modifier = keystroke_of-modifier; key = keystroke_of-key }
