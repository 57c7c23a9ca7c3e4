pub mod Fault
pub mod Live
pub mod Missing
pub mod CodeFault
pub mod Sound
pub mod Place
pub mod Among
