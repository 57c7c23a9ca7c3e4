pub mod ContextLemmas
pub mod Elements
pub mod ExtensionLemmas
pub mod ExtensionsLemmas
pub mod FileLemmas
pub mod IdentifiersLemmas
pub mod PlainValueLemmas
pub mod Window
