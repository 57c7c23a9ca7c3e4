pub mod Desk
pub mod Values
