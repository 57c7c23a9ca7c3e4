pub mod Frame
pub mod Header
pub mod Reading
pub mod Stream
