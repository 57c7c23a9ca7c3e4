-- The keystroke that a key text denotes, and the canonical text of a keystroke.
use Rattle.std.specs.Prelude.{ℕ, ◌+◌, ◌*◌, ◌<◌, List, [], ◌∷◌, ◌++◌, ◌≡◌, Bool, true, ◌&&◌, ◌==◌}
use Rattle.std.specs.Prelude.{length, drop}
use Rattle.std.specs.Prelude.{Option, None, Some, Result, Ok, Err}
use Rattle.std.specs.List.{slice_split}
use Rattle.kb_keys.specs.declared.key_fault.KeyFault.{KeyFault}
use Rattle.kb_keys.specs.declared.key_fault.KeyFault.TheVariants.{UnknownKey, EmptyKey}
use Rattle.kb_keys.specs.declared.keystroke.Keystroke.{Keystroke}
use Rattle.kb_keys.specs.declared.modifier.Modifier.{Modifier}
use Rattle.kb_keys.specs.declared.modifiers.Modifiers.{Modifiers}
use Rattle.kb_keys.specs.KeyName.{key_count, key_named, name_of}
use Rattle.kb_keys.specs.Modifier.{modifier_named, is_sign}
use Rattle.kb_keys.specs.Modifiers.{no_modifiers, with_modifier, spelled, same_modifiers, set_number}

-- a text split into modifiers and the text after them
pub record Split : Type 0 where
  pub mods : Modifiers
  pub rest : List ℕ

-- the modifier that `word` names, if another word (and so a separator) follows it
abbrev pub modifier_in : List ℕ → List (List ℕ) → Option Modifier
modifier_in word [] = None
modifier_in word (next ∷ more) = modifier_named word

-- a modifier is added to those after its separator; without one, the whole text is the rest
abbrev pub split_word : Option Modifier → List ℕ → Split → Split
split_word None text after = record { mods = no_modifiers; rest = text }
split_word (Some modifier) text after =
    record { mods = with_modifier modifier after.mods; rest = after.rest }

-- Any number of modifiers, each followed by a separator, then the rest. `words` is the text cut at its
-- separators.
abbrev pub split_words : List (List ℕ) → List ℕ → Split
split_words [] text = record { mods = no_modifiers; rest = text }
split_words (word ∷ words) text =
    split_word (modifier_in word words) text (split_words words (drop (length word + 1) text))

-- the modifiers at the beginning of a text, and the text after them
unfoldable pub split_of : List ℕ → Split
split_of text = split_words (slice_split is_sign text) text

-- the keystroke, if the key is known
abbrev pub with_key : Modifiers → Option ℕ → Result Keystroke KeyFault
with_key mods None = Err UnknownKey
with_key mods (Some key) = Ok (record { mods = mods; key = key })

-- the text after the modifiers must be the name of a key
abbrev pub keystroke_from : Modifiers → List ℕ → Result Keystroke KeyFault
keystroke_from mods [] = Err EmptyKey
keystroke_from mods (b ∷ bs) = with_key mods (key_named (b ∷ bs))

-- the keystroke that a text denotes, or the fault
unfoldable pub keystroke_of : List ℕ → Result Keystroke KeyFault
keystroke_of text = keystroke_from (split_of text).mods (split_of text).rest

-- the result with one more modifier
abbrev pub with_held : Modifier → Result Keystroke KeyFault → Result Keystroke KeyFault
with_held modifier (Ok s) = Ok (record { mods = with_modifier modifier s.mods; key = s.key })
with_held modifier (Err fault) = Err fault

-- the text does not begin with a modifier and a separator
abbrev pub HasNoModifier : List ℕ → Type 0
HasNoModifier text =
    (word rest : List ℕ) (sign : ℕ) → text ≡ word ++ sign ∷ rest → is_sign sign ≡ true
    → modifier_named word ≡ None

-- The law of `parse`: a modifier and a separator add that modifier to the keystroke of the text after
-- them; a text without them is the name of a key.
pub record ReadsFromLeft (read : List ℕ → Result Keystroke KeyFault) : Type 0 where
  pub modifier : (word rest : List ℕ) (sign : ℕ) (m : Modifier)
      → modifier_named word ≡ Some m → is_sign sign ≡ true
      → read (word ++ sign ∷ rest) ≡ with_held m (read rest)
  pub key : (text : List ℕ) → HasNoModifier text → read text ≡ keystroke_from no_modifiers text

-- the canonical text
unfoldable pub spelling : Keystroke → List ℕ
spelling s = spelled s.mods ++ name_of s.key

-- the same modifiers and the same key
abbrev pub same_stroke : Keystroke → Keystroke → Bool
same_stroke a b = same_modifiers a.mods b.mods && (a.key == b.key)

-- each key is in the table
abbrev pub KnownKeys : List Keystroke → Type 0
KnownKeys [] = Unit {0}
KnownKeys (s ∷ strokes) = (s.key < key_count) × KnownKeys strokes

-- the number of keystrokes: each key with each of the 16 sets of modifiers
abbrev pub stroke_count : ℕ
stroke_count = 1584

-- the number of a keystroke
abbrev pub number : Keystroke → ℕ
number s = set_number s.mods * key_count + s.key
