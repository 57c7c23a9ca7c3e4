pub mod Choices
pub mod Cause
pub mod Severity
pub mod Faulty
pub mod Near
pub mod Starts
pub mod Placed
pub mod Opened
