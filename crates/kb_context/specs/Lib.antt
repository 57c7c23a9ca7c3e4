pub mod AtHand
pub mod Draft
pub mod Layout
pub mod ScopeFault
pub mod Scopes
pub mod Sights
