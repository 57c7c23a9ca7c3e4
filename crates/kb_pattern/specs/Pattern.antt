-- The meaning of a pattern, by the grammar and the search of `regex`.
use Rattle.std.specs.Prelude.{ℕ, ◌≡◌, List, [], ◌∷◌, Bool, true, false, not, ◌&&◌, Option, Some, None}
use Rattle.std.specs.Prelude.{is_some, chars, nat_eq, nat_le, if◌then◌else◌, Result, Ok, Err, alloc_error}
use Rattle.std.specs.declared.alloc.AllocError.{AllocError}
use Rattle.std.specs.List.{list_any}
use Rattle.regex.specs.Patterns.{Re, find_str, default_config, Config}
use Rattle.regex.specs.Strings.{regex_source, regex_config, IsReadFromSource}
use Rattle.regex.specs.declared.string.regex.Regex.{Regex}
use Rattle.regex.specs.declared.error.Error.{Error}
use Rattle.regex.specs.declared.error.Error.TheVariants.{Syntax}
use Rattle.regex_syntax.specs.Grammar.{Names, read}
use Rattle.regex_syntax.specs.Brackets.{Nested}
use Rattle.kb_pattern.specs.declared.flags.Flags.{Flags}

-- the flags "i" (105), "m" (109) and "s" (115) among the letters after a pattern; others are ignored
abbrev pub flags_of : List ℕ → Flags
flags_of letters = record {
  ignore_case = list_any (nat_eq 105) letters;
  multi_line = list_any (nat_eq 109) letters;
  dot_all = list_any (nat_eq 115) letters;
}

abbrev pub same_truth : Bool → Bool → Bool
same_truth true b = b
same_truth false b = not b

abbrev pub same_flags : Flags → Flags → Bool
same_flags f g =
    same_truth f.ignore_case g.ignore_case
    && (same_truth f.multi_line g.multi_line && same_truth f.dot_all g.dot_all)

-- a pattern, and whether it is marked as unread
pub record MarkedPattern : Type 0 where
  pub text : List ℕ
  pub flags : Flags
  pub unread : Bool

abbrev pub config_of : Flags → Config
config_of f = record default_config {
  flags = record (default_config.flags) {
    case_insensitive = f.ignore_case;
    multi_line = f.multi_line;
    dot_matches_new_line = f.dot_all;
  };
}

abbrev pub is_within : ℕ → Option (Nested Re × Names) → Bool
is_within most None = false
is_within most (Some p) = nat_le (p.0).depth most

-- the grammar accepts the pattern, within its nesting limit
unfoldable pub is_read : Config → List ℕ → Bool
is_read config pattern = is_within config.nest_limit (read config (chars pattern))

-- the grammar accepts the pattern, at any nesting depth
unfoldable pub is_in_grammar : Config → List ℕ → Bool
is_in_grammar config pattern = is_some (read config (chars pattern))

-- Whether a mark is correct: a pattern marked as unread is outside the grammar or nests too deep; a
-- pattern without the mark is in the grammar.
abbrev pub IsRight : List ℕ × Flags → Bool → Type 0
IsRight p true = is_read (config_of p.1) p.0 ≡ false
IsRight p false = is_in_grammar (config_of p.1) p.0 ≡ true

abbrev pub HasRightMark : MarkedPattern → Type 0
HasRightMark p = IsRight (p.text, p.flags) p.unread

-- one mark for each pattern, and each is correct
abbrev pub AreRight : List (List ℕ × Flags) → List Bool → Type 0
AreRight [] [] = Unit {0}
AreRight (p ∷ ps) (b ∷ marks) = IsRight p b × AreRight ps marks
AreRight [] (b ∷ marks) = ⊥
AreRight (p ∷ ps) [] = ⊥

-- the pattern, marked as unread if the grammar does not accept it
abbrev pub marked_pattern : List ℕ → Flags → MarkedPattern
marked_pattern text flags =
    record { text = text; flags = flags; unread = not (is_read (config_of flags) text) }

abbrev pub found_in : Option (Nested Re × Names) → List ℕ → Bool
found_in None hay = false
found_in (Some p) hay = is_some (find_str (p.0).value hay 0)

-- the pattern matches somewhere in the text
unfoldable pub matches_in : Config → List ℕ → List ℕ → Bool
matches_in config pattern hay = found_in (read config (chars pattern)) hay

-- an unread pattern never matches
abbrev pub pattern_holds : MarkedPattern → List ℕ → Bool
pattern_holds p hay = if p.unread then false else matches_in (config_of p.flags) p.text hay

-- ---- the compiled pattern, its text and its flags

pub record IsCompiled (text : List ℕ) (flags : Flags) (r : Regex) : Type 0 where
  pub source : regex_source r ≡ text
  pub config : regex_config r ≡ config_of flags
  pub read : IsReadFromSource r
  pub in_grammar : is_read (config_of flags) text ≡ true

abbrev pub Stands : List ℕ → Flags → Option Regex → Type 0
Stands text flags None = is_read (config_of flags) text ≡ false
Stands text flags (Some r) = IsCompiled text flags r

-- The outcome of a build by `regex`: an unsupported syntax is not an error, and any other refusal counts
-- as out of memory.
abbrev pub compiled_of : Result Regex Error → Result (Option Regex) AllocError
compiled_of (Ok r) = Ok (Some r)
compiled_of (Err (Syntax e)) = Ok None
compiled_of (Err _) = Err alloc_error
