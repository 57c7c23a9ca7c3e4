pub mod Alike
pub mod Transcript
