-- The clauses of a manifest: one that can't be read is the clause `false`. `told` lists the unread patterns.
use Rattle.std.specs.Prelude.{ℕ, List, [], ◌∷◌, Option, Some, None, Result, Ok, Err}
use Rattle.kb_when.specs.Clause.{Clause, never, patterns_of}
use Rattle.kb_when.specs.ClauseText.{clause_in}
use Rattle.kb_when.specs.Marks.{MarkedClause}
use Rattle.kb_pattern.specs.Pattern.{AreRight}
use Rattle.kb_when.specs.Unread.{unread_of, marked_by}
use Rattle.kb_when.specs.WhenFault.{kind_of}
use Rattle.kb_when.specs.declared.fault.WhenFault.{WhenFault}
use Rattle.kb_base.specs.declared.fault.FaultKind.{FaultKind}
use Rattle.kb_base.specs.declared.fault.FaultKind.TheVariants as kind
use Rattle.kb_base.specs.declared.note.UnreadPattern.{UnreadPattern}
use Rattle.kb_manifest.specs.declared.condition.Condition.{Condition}

-- a clause with patterns that aren't read has one warning
abbrev pub fault_by : List UnreadPattern → Option FaultKind
fault_by [] = None
fault_by (u ∷ us) = Some kind.UnreadPattern

abbrev pub marked_condition : MarkedClause → Condition
marked_condition c = record { clause = Some c; fault = fault_by (unread_of c); unread = unread_of c }

abbrev pub never_holds : WhenFault → Condition
never_holds fault = record {
  clause = Some (record { tree = never; marks = [] });
  fault = Some (kind_of fault);
  unread = [];
}

abbrev pub condition_by : List UnreadPattern → Result Clause WhenFault → Condition
condition_by told (Ok tree) = marked_condition (marked_by told tree)
condition_by told (Err fault) = never_holds fault

-- the clause of a text, the fault of its warning, and its unread patterns
unfoldable pub condition_of : List UnreadPattern → List ℕ → Condition
condition_of told text = condition_by told (clause_in text)

-- the same where there may be no text
abbrev pub optional_condition : List UnreadPattern → Option (List ℕ) → Condition
optional_condition told None = record { clause = None; fault = None; unread = [] }
optional_condition told (Some text) = condition_of told text

-- the unread patterns of a clause are right: `regex` rejects these, and reads the others
abbrev pub IsRightBy : List UnreadPattern → Result Clause WhenFault → Type 0
IsRightBy told (Ok tree) = AreRight (patterns_of tree) (marked_by told tree).marks
IsRightBy told (Err fault) = Unit {0}

unfoldable pub IsRightOf : List UnreadPattern → List ℕ → Type 0
IsRightOf told text = IsRightBy told (clause_in text)

abbrev pub IsOptionalRight : List UnreadPattern → Option (List ℕ) → Type 0
IsOptionalRight told None = Unit {0}
IsOptionalRight told (Some text) = IsRightOf told text
