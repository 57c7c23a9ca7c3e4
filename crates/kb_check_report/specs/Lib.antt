pub mod Checking
pub mod Format
pub mod Marks
pub mod Page
pub mod Whose
