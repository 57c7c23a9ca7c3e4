pub mod Context
pub mod Layout
