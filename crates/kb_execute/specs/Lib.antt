pub mod HeldCore
pub mod RunCommands
pub mod Start
