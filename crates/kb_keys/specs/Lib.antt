pub mod Chord
pub mod KeyFault
pub mod KeyName
pub mod Keystroke
pub mod Modifier
pub mod Modifiers
pub mod Platform
