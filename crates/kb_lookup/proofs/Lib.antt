pub mod GoingOnLemmas
pub mod StartingLemmas
pub mod WalkLemmas
