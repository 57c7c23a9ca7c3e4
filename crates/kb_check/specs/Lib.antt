pub mod Sound
pub mod Problems
