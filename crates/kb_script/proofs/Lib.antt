pub mod BareLemmas
pub mod LineLemmas
pub mod RightLemmas
pub mod SafeScripts
pub mod ScriptRuns
pub mod ShelfLemmas
pub mod StreamLemmas
