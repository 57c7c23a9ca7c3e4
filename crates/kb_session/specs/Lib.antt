pub mod Fault
pub mod Headline
pub mod Inspect
pub mod Palette
pub mod Press
pub mod Session
pub mod State
pub mod Handled
