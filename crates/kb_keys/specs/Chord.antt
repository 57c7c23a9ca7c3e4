-- The chord that a chord text denotes, and the canonical text of a chord.
use Rattle.std.specs.Prelude.{ℕ, List, [], ◌∷◌, ◌++◌, Bool, cond, ◌==◌, not, map, filter, nat_lt, length}
use Rattle.std.specs.Prelude.{Result, Ok, Err}
use Rattle.std.specs.List.{slice_split, starts_with, join_with_byte}
use Rattle.std.specs.Cmp.Lexicographic.{pointwise}
use Rattle.kb_keys.specs.declared.key_fault.KeyFault.{KeyFault}
use Rattle.kb_keys.specs.declared.key_fault.KeyFault.TheVariants.{TooManySteps, EmptyKey}
use Rattle.kb_keys.specs.declared.keystroke.Keystroke.{Keystroke}
use Rattle.kb_keys.specs.Keystroke.{keystroke_of, spelling, same_stroke}

-- the maximum number of keystrokes in a chord
abbrev pub chord_limit : ℕ
chord_limit = 4

-- the non-empty texts between spaces
abbrev pub steps_of : List ℕ → List (List ℕ)
steps_of text = filter (λ step. not (length step == 0)) (slice_split (λ byte. byte == 32) text)

-- a step before the others, if it is not empty
abbrev pub with_step : List ℕ → List (List ℕ) → List (List ℕ)
with_step [] steps = steps
with_step (b ∷ bs) steps = (b ∷ bs) ∷ steps

-- the keystrokes, or the first fault
abbrev pub Strokes : Type 0
Strokes = Result (List Keystroke) KeyFault

-- one more keystroke at the front, if the others are valid
abbrev pub prepend : Keystroke → Strokes → Strokes
prepend stroke (Ok strokes) = Ok (stroke ∷ strokes)
prepend stroke (Err fault) = Err fault

-- one more step at the front, whose fault takes precedence over theirs
abbrev pub if_read : Result Keystroke KeyFault → Strokes → Strokes
if_read (Ok stroke) strokes = prepend stroke strokes
if_read (Err fault) strokes = Err fault

-- the keystroke of each step, or the fault of the first invalid step
abbrev pub strokes_of : List (List ℕ) → Strokes
strokes_of [] = Ok []
strokes_of (step ∷ steps) = if_read (keystroke_of step) (strokes_of steps)

-- the number of steps is checked before the steps themselves
abbrev pub chord_from : List (List ℕ) → Strokes
chord_from steps =
    cond (length steps == 0) (Err EmptyKey)
    (cond (nat_lt chord_limit (length steps)) (Err TooManySteps)
    (strokes_of steps))

-- the keystrokes that a text denotes, or the fault
abbrev pub chord_of : List ℕ → Strokes
chord_of text = chord_from (steps_of text)

-- a space before each canonical text
abbrev pub spelling_after : List Keystroke → List ℕ
spelling_after [] = []
spelling_after (stroke ∷ strokes) = 32 ∷ (spelling stroke ++ spelling_after strokes)

-- the canonical texts, with one space between them
abbrev pub chord_spelling : List Keystroke → List ℕ
chord_spelling strokes = join_with_byte 32 (map spelling strokes)

-- whether the chord begins with the pressed keystrokes
abbrev pub begins_with : List Keystroke → List Keystroke → Bool
begins_with chord pressed = starts_with same_stroke chord pressed

-- whether both have the same keystrokes in the same order
abbrev pub same_keys : List Keystroke → List Keystroke → Bool
same_keys one other = pointwise same_stroke one other
