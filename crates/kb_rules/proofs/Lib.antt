pub mod DroppedLemmas
pub mod EnabledLemmas
pub mod EntryLemmas
pub mod RemovalIndexLemmas
pub mod RemovalLemmas
pub mod RightMarks
pub mod RuleListLemmas
