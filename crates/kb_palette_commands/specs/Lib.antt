pub mod Contributed
pub mod Items
pub mod Palette
