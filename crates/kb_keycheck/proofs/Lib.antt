pub mod DoesLemmas
pub mod EndLemmas
pub mod PressingLemmas
pub mod LineLemmas
mod LineRows
pub mod RunLemmas
pub mod TranslatingLemmas
