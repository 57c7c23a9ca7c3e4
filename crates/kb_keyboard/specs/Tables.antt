-- The names of keys by what they mean and by where they are.
use Rattle.std.specs.Prelude.{ℕ, List, [], ◌∷◌, Bool, Option, Some, None, bytes_eq, codes, if◌then◌else◌}
use Rattle.std.specs.List.{list_any}
use Rattle.kb_keys.specs.KeyName.{lowered}

-- the name that a table has for a word
abbrev pub named_in : List (List ℕ × List ℕ) → List ℕ → Option (List ℕ)
named_in [] word = None
named_in (row ∷ rows) word = if bytes_eq word row.0 then Some row.1 else named_in rows word

-- values of `KeyboardEvent.key` that are no press of a key
abbrev pub is_silent : List ℕ → Bool
is_silent key = list_any (bytes_eq key) (
    codes "Control" ∷ codes "Shift" ∷ codes "Alt" ∷ codes "Meta" ∷ codes "AltGraph" ∷ codes "Fn" ∷
    codes "FnLock" ∷ codes "NumLock" ∷ codes "ScrollLock" ∷ codes "Hyper" ∷ codes "Super" ∷ codes "Process" ∷
    codes "Unidentified" ∷ []
    )

-- keys that write no character, by `KeyboardEvent.key`
unfoldable pub meanings : List (List ℕ × List ℕ)
meanings =
    (codes "ArrowLeft", codes "left") ∷ (codes "ArrowRight", codes "right") ∷
    (codes "ArrowUp", codes "up") ∷ (codes "ArrowDown", codes "down") ∷
    (codes "Home", codes "home") ∷ (codes "End", codes "end") ∷
    (codes "PageUp", codes "pageup") ∷ (codes "PageDown", codes "pagedown") ∷
    (codes "Tab", codes "tab") ∷ (codes "Enter", codes "enter") ∷ (codes "Escape", codes "escape") ∷
    (codes " ", codes "space") ∷ (codes "Backspace", codes "backspace") ∷ (codes "Delete", codes "delete") ∷
    (codes "Insert", codes "insert") ∷ (codes "Pause", codes "pausebreak") ∷
    (codes "CapsLock", codes "capslock") ∷ []

-- keys of the number pad with a sign, by `KeyboardEvent.code`
unfoldable pub pad_signs : List (List ℕ × List ℕ)
pad_signs =
    (codes "NumpadMultiply", codes "numpad_multiply") ∷ (codes "NumpadAdd", codes "numpad_add") ∷
    (codes "NumpadComma", codes "numpad_separator") ∷ (codes "NumpadSubtract", codes "numpad_subtract") ∷
    (codes "NumpadDecimal", codes "numpad_decimal") ∷ (codes "NumpadDivide", codes "numpad_divide") ∷ []

-- other keys with a sign, by their place on a US keyboard
unfoldable pub places : List (List ℕ × List ℕ)
places =
    (codes "Minus", codes "-") ∷ (codes "Equal", codes "=") ∷
    (codes "BracketLeft", codes "[") ∷ (codes "BracketRight", codes "]") ∷
    (codes "Backslash", codes "\\") ∷ (codes "Semicolon", codes ";") ∷ (codes "Quote", codes "'") ∷
    (codes "Backquote", codes "`") ∷ (codes "Comma", codes ",") ∷ (codes "Period", codes ".") ∷
    (codes "Slash", codes "/") ∷ (codes "Space", codes "space") ∷ (codes "Pause", codes "pausebreak") ∷ []

abbrev pub same_word : List ℕ → List ℕ → Bool
same_word one other = bytes_eq (lowered one) (lowered other)

abbrev pub oem_among : List (List ℕ × List ℕ) → List ℕ → Option (List ℕ)
oem_among [] word = None
oem_among (row ∷ rows) word = if same_word word row.0 then Some row.1 else oem_among rows word

-- the keys of VS Code's names of virtual keys
unfoldable pub oem_name : List ℕ → Option (List ℕ)
oem_name word = oem_among (
    (codes "oem_1", codes ";") ∷ (codes "oem_plus", codes "=") ∷ (codes "oem_comma", codes ",") ∷
    (codes "oem_minus", codes "-") ∷ (codes "oem_period", codes ".") ∷ (codes "oem_2", codes "/") ∷
    (codes "oem_3", codes "`") ∷ (codes "oem_4", codes "[") ∷ (codes "oem_5", codes "\\") ∷
    (codes "oem_6", codes "]") ∷ (codes "oem_7", codes "'") ∷ []
    ) word
