pub mod RunningLemmas
pub mod EngineLemmas
pub mod TellingLemmas
pub mod TakenLemmas
