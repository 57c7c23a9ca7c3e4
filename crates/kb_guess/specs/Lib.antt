pub mod Cutting
pub mod Guessing
