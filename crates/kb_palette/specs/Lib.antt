pub mod Command
pub mod History
pub mod Listing
pub mod Rows
pub mod Words
