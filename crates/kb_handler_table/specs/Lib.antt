pub mod Fault
pub mod Codes
pub mod Live
pub mod Apart
pub mod Links
pub mod Names
pub mod Group
pub mod Place
