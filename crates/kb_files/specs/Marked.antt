-- What a call answers that finds out which patterns aren't read.
use Rattle.std.specs.Prelude.{◌≡◌, ⊤, List, Result, Ok, Err, MatchResult}
use Rattle.kb_base.specs.Failure.{Fails}
use Rattle.kb_base.specs.declared.failure.Failure.{Failure}
use Rattle.kb_base.specs.declared.failure.Failure.TheVariants.{NoMemory, Fault}
use Rattle.kb_base.specs.declared.refusal.Refusal.{Refusal}
use Rattle.kb_rules.specs.RuleList.{Listed}
use Rattle.kb_base.specs.declared.note.EntryPattern.{EntryPattern}

module _ {M X F : Type 0} where
  -- a call failed as what is meant does for all marks, or was refused memory
  abbrev pub FailsForAll : Failure F → (M → Result X F) → Type 0
  FailsForAll NoMemory meant = ⊤
  FailsForAll (Fault fault) meant = (marks : M) → meant marks ≡ Err fault

  -- a call answered what is meant for the marks that its value has, or failed for all marks
  abbrev pub GivesByMarks : (X → M) → (M → Result X F) → Result X (Failure F) → Type 0
  GivesByMarks marks_of meant (Ok x) = meant (marks_of x) ≡ Ok x
  GivesByMarks marks_of meant (Err failure) = FailsForAll failure meant

-- the same of a list of rules
abbrev pub ReadsBy : (List EntryPattern → Result Listed Refusal) → Result Listed (Failure Refusal) → Type 0
ReadsBy meant result = GivesByMarks (λ list. list.unread) meant result

-- a call answered something that is made of what is meant, or failed as that does, or was refused memory
abbrev pub GivesOf : {F X Y : Type 0} → (Y → X → Type 0) → Result X (Failure F) → Result Y F → Type 0
GivesOf IsMade (Ok x) meant = MatchResult meant (λ y. IsMade y x) (λ fault. ⊥)
GivesOf IsMade (Err failure) meant = Fails failure meant
