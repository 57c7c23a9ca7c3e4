pub mod ListLemmas
pub mod ShadowLemmas
pub mod CutOffLemmas
pub mod TakingLemmas
pub mod ExtendedLemmas
