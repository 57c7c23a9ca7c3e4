-- Lemmas on the steps of a chord text.
use Rattle.std.proofs.Common.{◌≡◌, ℕ, ◌+◌, ◌<◌, List, [], ◌∷◌, ◌++◌, false, ◌==◌, not, length, refl, arith}
use Rattle.std.proofs.Common.{filter, rules, tests, Result, Ok, Err}
use Rattle.std.specs.Str.{IsUtf8}
use Rattle.std.specs.List.{All, slice_split, position_or_len, before_first, after_first}
use Rattle.std.proofs.lemmas.List.Splits.{slice_split_first, slice_split_none}
use Rattle.std.proofs.lemmas.List.Sums.{fails_before_first}
use Rattle.kb_keys.specs.declared.key_fault.KeyFault.{KeyFault}
use Rattle.kb_keys.specs.declared.keystroke.Keystroke.{Keystroke}
use Rattle.kb_keys.specs.Chord.{steps_of, with_step, strokes_of}

pub kept : (step : List ℕ) (steps : List (List ℕ))
    → filter (λ step. not (length step == 0)) (step ∷ steps)
    ≡ with_step step (filter (λ step. not (length step == 0)) steps)
kept [] steps = refl
kept (b ∷ bs) steps = let e : (length (b ∷ bs) == 0) ≡ false = search (rules, tests) in rw e refl

pub steps_of-cut : (text : List ℕ) → position_or_len (λ byte. byte == 32) text < length text
    → steps_of text ≡ with_step (before_first (λ byte. byte == 32) text)
    (steps_of (after_first (λ byte. byte == 32) text))
steps_of-cut text h =
    rw (slice_split_first (λ byte. byte == 32) text 0 h)
    (kept (before_first (λ byte. byte == 32) text)
    (slice_split (λ byte. byte == 32) (after_first (λ byte. byte == 32) text)))

pub steps_of-last : (text : List ℕ) → position_or_len (λ byte. byte == 32) text ≡ length text
    → steps_of text ≡ with_step text []
steps_of-last text h =
    let none : All (λ byte. (byte == 32) ≡ false) text =
    λ k d l. fails_before_first (λ byte. byte == 32) text k d (omega arith) in
    rw (slice_split_none (λ byte. byte == 32) text none) (kept text [])

-- the strokes before a reading of the rest
abbrev pub prepend_all : List Keystroke → Result (List Keystroke) KeyFault → Result (List Keystroke) KeyFault
prepend_all strokes (Ok rest) = Ok (strokes ++ rest)
prepend_all strokes (Err fault) = Err fault

-- what is read so far, and the steps that are left
pub record ReadsChord (text : List ℕ) (strokes : List Keystroke) (rest : List ℕ) : Type 0 where
  pub is_text : IsUtf8 rest
  pub result_left : strokes_of (steps_of text) ≡ prepend_all strokes (strokes_of (steps_of rest))
  pub room : length strokes + length (steps_of rest) ≡ length (steps_of text)
