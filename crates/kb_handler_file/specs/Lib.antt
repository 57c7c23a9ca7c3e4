pub mod Fault
pub mod Names
pub mod Parameters
pub mod Entry
pub mod Limits
pub mod Code
pub mod HandlerFile
pub mod Head
