pub mod Columns
pub mod Document
pub mod Lines
pub mod Places
