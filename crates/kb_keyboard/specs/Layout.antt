-- Layouts of keyboards.
use Rattle.std.specs.Prelude.{ℕ, List, [], ◌∷◌, ◌||◌, Bool, false, length, nat_lt, if◌then◌else◌}
use Rattle.std.specs.Prelude.{Option, find, is_some, option_and_then, option_map, Result, Ok, Err}
use Rattle.kb_keys.specs.KeyName.{name_of}
use Rattle.kb_keyboard.specs.declared.layout.LayoutKey.{LayoutKey}
use Rattle.kb_keyboard.specs.declared.layout_fault.LayoutFault.{LayoutFault}
use Rattle.kb_keyboard.specs.declared.layout_fault.LayoutFault.TheVariants.{TooLarge, CodeTwice}
use Rattle.kb_keyboard.specs.Naming.{key_at}
use Rattle.kb_keyboard.specs.Tables.{same_word}

abbrev pub has_code : List ℕ → LayoutKey → Bool
has_code code key = same_word key.code code

-- a key has the code of a later one
abbrev pub has_twice : List LayoutKey → Bool
has_twice [] = false
has_twice (key ∷ keys) = is_some (find (has_code key.code) keys) || has_twice keys

-- the keys, or the first fault of a layout that has them
abbrev pub layout_of : List LayoutKey → Result (List LayoutKey) LayoutFault
layout_of keys =
    if nat_lt 256 (length keys) then Err TooLarge
    else if has_twice keys then Err CodeTwice
    else Ok keys

-- the name of the key of rules that a code stands for
abbrev pub name_at : List LayoutKey → List ℕ → Bool → Option (List ℕ)
name_at keys code shifted =
    option_map name_of
    (option_and_then (λ key. key_at key.code key.character shifted) (find (has_code code) keys))
