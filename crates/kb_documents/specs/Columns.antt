-- Columns of a line, in code units.
use Rattle.std.specs.Prelude.{ℕ, zero, suc, ◌-◌, ◌&&◌, Bool, nat_lt, nat_le, if◌then◌else◌, List, [], ◌∷◌}
use Rattle.std.specs.Prelude.{slice_index, sum_by}
use Rattle.kb_documents.specs.declared.encoding.Encoding.{Encoding}
use Rattle.kb_documents.specs.declared.encoding.Encoding.TheVariants.{Utf8, Utf16}

-- a byte inside a character, behind its first one
abbrev pub is_inside : ℕ → Bool
is_inside byte = nat_le 128 byte && nat_le byte 191

-- the code units that a byte of UTF-8 adds: the first byte of a character adds all units of UTF-16, two for
-- a character of four bytes
abbrev pub units : Encoding → ℕ → ℕ
units Utf8 byte = 1
units Utf16 byte = if is_inside byte then 0 else if nat_lt byte 240 then 1 else 2

-- the column behind a part of a line
abbrev pub column : Encoding → List ℕ → ℕ
column encoding part = sum_by (units encoding) part

-- how many bytes of a line have no more than so many units together
abbrev pub reach : Encoding → List ℕ → ℕ → ℕ
reach encoding [] character = 0
reach encoding (b ∷ bs) character =
    if nat_lt character (units encoding b) then 0 else suc (reach encoding bs (character - units encoding b))

-- the first byte of the character at an index
abbrev pub back : List ℕ → ℕ → ℕ
back line zero = 0
back line (suc n) = if is_inside (slice_index line (suc n)) then back line n else suc n

-- the index in a line of the character at a column: as much of the line as the column reaches, and back to
-- the first byte of a character
abbrev pub fit : Encoding → List ℕ → ℕ → ℕ
fit encoding line character = back line (reach encoding line character)
