pub mod ChordState
pub mod Enablements
pub mod Index
pub mod Pressed
pub mod Resolved
pub mod Resolver
