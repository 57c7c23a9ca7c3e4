pub mod CommandTableLemmas
pub mod JudgedLemmas
