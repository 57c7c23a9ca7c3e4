pub mod ExitStatus
pub mod Voice
pub mod Headline
pub mod Run
pub mod Report
