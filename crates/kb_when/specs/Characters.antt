-- Classes and runs of characters.
use Rattle.std.specs.Prelude.{ℕ, List, [], ◌∷◌, Bool, false, ◌&&◌, ◌||◌, not, if◌then◌else◌, nat_eq, nat_le}
use Rattle.std.specs.Prelude.{Option, Some, None, codes}
use Rattle.std.specs.List.{flat_map, list_any}
use Rattle.std.specs.Char.{encode_utf8}
use Rattle.kb_base.specs.Blank.{is_blank}
use Rattle.kb_when.specs.declared.characters.Until.{Until}
use Rattle.kb_when.specs.declared.characters.Until.TheVariants.{WordEnd, Quote, NoLetter}

abbrev pub begins_blank : List ℕ → Bool
begins_blank [] = false
begins_blank (c ∷ cs) = is_blank c

-- white space, and the characters of signs and quotes
abbrev pub ends_word : ℕ → Bool
ends_word c = is_blank c || list_any (nat_eq c) (codes "()'!=&|")

abbrev pub is_quote : ℕ → Bool
is_quote c = nat_eq c 39

-- not an ASCII letter, "a" to "z" or "A" to "Z"
abbrev pub is_no_letter : ℕ → Bool
is_no_letter c = not ((nat_le 97 c && nat_le c 122) || (nat_le 65 c && nat_le c 90))

-- whether a run of characters ends before this one
abbrev pub ends_at : Until → ℕ → Bool
ends_at WordEnd = ends_word
ends_at Quote = is_quote
ends_at NoLetter = is_no_letter

-- the longest prefix without a character that satisfies the test
abbrev pub front : (ℕ → Bool) → List ℕ → List ℕ
front ends [] = []
front ends (c ∷ cs) = if ends c then [] else c ∷ front ends cs

-- the characters after that prefix
abbrev pub behind : (ℕ → Bool) → List ℕ → List ℕ
behind ends [] = []
behind ends (c ∷ cs) = if ends c then c ∷ cs else behind ends cs

abbrev pub is_no_blank : ℕ → Bool
is_no_blank c = not (is_blank c)

-- the characters after leading white space
abbrev pub skipped : List ℕ → List ℕ
skipped = behind is_no_blank

-- the UTF-8 bytes of characters
abbrev pub bytes_of : List ℕ → List ℕ
bytes_of = flat_map encode_utf8

-- the characters after a sign, if they begin with it
abbrev pub behind_sign : List ℕ → List ℕ → Option (List ℕ)
behind_sign [] cs = Some cs
behind_sign (s ∷ sign) [] = None
behind_sign (s ∷ sign) (c ∷ cs) = if nat_eq s c then behind_sign sign cs else None
