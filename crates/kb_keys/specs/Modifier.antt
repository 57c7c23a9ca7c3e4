-- The names of the modifiers, and the modifier at the beginning of a text.
use Rattle.std.specs.Prelude.{ℕ, ◌+◌, List, Bool, cond, ◌||◌, ◌==◌, Option, None, Some, option_map}
use Rattle.std.specs.Prelude.{bytes_eq, codes, drop, take, position}
use Rattle.kb_keys.specs.declared.modifier.Modifier.{Modifier}
use Rattle.kb_keys.specs.declared.modifier.Modifier.TheVariants.{Ctrl, Shift, Alt, Meta}
use Rattle.kb_keys.specs.KeyName.{lowered}

-- the modifier with a name in lower case
abbrev pub modifier_of : List ℕ → Option Modifier
modifier_of word =
    cond (bytes_eq word (codes "ctrl")) (Some Ctrl)
    (cond (bytes_eq word (codes "shift")) (Some Shift)
    (cond (bytes_eq word (codes "alt")) (Some Alt)
    (cond (bytes_eq word (codes "cmd") || (bytes_eq word (codes "win") || bytes_eq word (codes "meta")))
    (Some Meta)
    None)))

-- the modifier with a name in any ASCII letter case
abbrev pub modifier_named : List ℕ → Option Modifier
modifier_named word = modifier_of (lowered word)

-- the separators `+` and `-`
abbrev pub is_sign : ℕ → Bool
is_sign byte = (byte == 43) || (byte == 45)

-- the modifier before the separator at index `at`, and the text after that separator
abbrev pub modifier_before : List ℕ → Option ℕ → Option (Modifier × List ℕ)
modifier_before text None = None
modifier_before text (Some at) =
    option_map (λ modifier. (modifier, drop (at + 1) text)) (modifier_named (take at text))

-- the modifier before the first separator of a text, and the text after that separator
abbrev pub first_modifier : List ℕ → Option (Modifier × List ℕ)
first_modifier text = modifier_before text (position is_sign text)
