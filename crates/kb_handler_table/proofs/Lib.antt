pub mod GroupLemmas
pub mod Groups
pub mod Apart
pub mod Taken
