pub mod Sound
pub mod Stays
pub mod Callees
