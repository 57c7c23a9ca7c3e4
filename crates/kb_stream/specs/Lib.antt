pub mod Fold
pub mod FoldWriting
pub mod Lines
pub mod Reading
pub mod Writing
