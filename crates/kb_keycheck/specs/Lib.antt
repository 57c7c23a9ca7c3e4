pub mod CommandLine
pub mod Ends
pub mod Pressing
pub mod Translating
