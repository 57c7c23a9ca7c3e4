pub mod AlikeLemmas
pub mod LoadLemmas
pub mod ModelRows
pub mod ScopeRows
pub mod Transcripts
