pub mod Entry
pub mod Json
pub mod Removal
pub mod RemovalIndex
pub mod RuleList
pub mod RuleSet
pub mod Unread
pub mod Whole
