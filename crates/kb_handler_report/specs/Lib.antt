pub mod Extension
pub mod Files
pub mod Callable
pub mod Judgement
pub mod Visits
pub mod Stop
pub mod Stopping
pub mod Check
