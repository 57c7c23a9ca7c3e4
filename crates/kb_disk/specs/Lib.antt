pub mod CannotRead
pub mod Directory
pub mod Files
pub mod LoadFiles
