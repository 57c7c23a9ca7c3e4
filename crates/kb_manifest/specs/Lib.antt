pub mod Command
pub mod CommandTable
pub mod Condition
pub mod Judged
pub mod Manifest
pub mod Notes
pub mod PaletteItem
pub mod Points
