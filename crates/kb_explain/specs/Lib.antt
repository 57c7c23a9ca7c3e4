pub mod Cause
pub mod Disabled
pub mod Overlap
pub mod Seen
pub mod Press
pub mod Removed
pub mod Started
pub mod Palette
