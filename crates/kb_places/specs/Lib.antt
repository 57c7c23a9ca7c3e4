pub mod Place
pub mod Open
pub mod Position
pub mod Lines
pub mod Children
