-- Bytes with a meaning in JSON with comments.
use Rattle.std.specs.Prelude.{ℕ, ◌==◌, ◌||◌, not, Bool, false, if◌then◌else◌, Option, Some, None}

abbrev pub quote : ℕ
quote = 34

abbrev pub backslash : ℕ
backslash = 92

abbrev pub slash : ℕ
slash = 47

abbrev pub star : ℕ
star = 42

abbrev pub comma : ℕ
comma = 44

abbrev pub space : ℕ
space = 32

-- CR and LF end a line
abbrev pub is_line_end : ℕ → Bool
is_line_end b = b == 13 || b == 10

-- the byte that replaces a byte of a comment: line ends are kept
abbrev pub blanked : ℕ → ℕ
blanked b = if is_line_end b then b else space

-- the next byte is a closing bracket
abbrev pub closes : Option ℕ → Bool
closes None = false
closes (Some b) = b == 93 || b == 125

-- the last byte ends an element or a member: it is not an opening bracket, a comma or a colon
abbrev pub ends_value : Option ℕ → Bool
ends_value None = false
ends_value (Some b) = not (b == 91 || b == 123 || b == comma || b == 58)
