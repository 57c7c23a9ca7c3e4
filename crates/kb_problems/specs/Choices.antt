-- The names of lints, and which of them are looked for.
use Rattle.std.specs.Prelude.{ℕ, List, map, Bool, true, false, not, ◌&&◌, ◌||◌, codes}
use Rattle.std.specs.List.{list_any}
use Rattle.std.specs.Str.{bytes_eq}
use Rattle.kb_problems.specs.declared.cause.Lint.{Lint}
use Rattle.kb_problems.specs.declared.cause.Lint.TheVariants as lint
use Rattle.kb_problems.specs.declared.choices.Choices.{Choices}

abbrev pub lint_name : Lint → List ℕ
lint_name lint.UnknownCommand = codes "unknown-command"
lint_name lint.MisspelledCommand = codes "misspelled-command"
lint_name lint.WrongArguments = codes "wrong-arguments"
lint_name lint.IdleRemoval = codes "idle-removal"
lint_name lint.NeverStarts = codes "never-starts"
lint_name lint.Overridden = codes "overridden"
lint_name lint.ChordNeverOpens = codes "chord-never-opens"
lint_name lint.ChordHidesRule = codes "chord-hides-rule"
lint_name lint.UnreadPattern = codes "unread-pattern"
lint_name lint.MisspelledMember = codes "misspelled-member"
lint_name lint.DoubleQuotes = codes "double-quotes"
lint_name lint.UnknownContextKey = codes "unknown-context-key"

-- a lint is only looked for if it is asked for
abbrev pub is_off : Lint → Bool
is_off lint.UnknownContextKey = true
is_off _ = false

-- a name is one of these
abbrev pub is_among : List ℕ → List (List ℕ) → Bool
is_among name names = list_any (λ one. bytes_eq one name) names

-- a lint is looked for: it isn't silenced, and it is asked for if it is off by default
abbrev pub wants : Choices → Lint → Bool
wants choices lint =
    not (is_among (lint_name lint) (map (λ name. name.now) choices.allowed.now))
    && (not (is_off lint) || is_among (lint_name lint) (map (λ name. name.now) choices.asked.now))
