pub mod Starting
pub mod GoingOn
