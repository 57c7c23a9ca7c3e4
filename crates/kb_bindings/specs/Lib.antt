pub mod Bindings
pub mod Load
pub mod Sources
pub mod Unread
pub mod Warning
