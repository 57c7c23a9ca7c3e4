pub mod Tables
pub mod LayoutFault
pub mod Naming
pub mod Layout
pub mod Respelling
pub mod Event
