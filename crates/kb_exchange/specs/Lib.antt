pub mod Span
pub mod Says
pub mod Tokens
pub mod Values
pub mod Exchange
pub mod Moves
pub mod Renewal
