pub mod Choice
pub mod Json
pub mod Judging
pub mod Laws
pub mod Numbers
pub mod Translating
