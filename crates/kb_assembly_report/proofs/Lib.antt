pub mod DepthLemmas
pub mod JsonLemmas
pub mod JudgingLemmas
pub mod LawLemmas
pub mod LowerLemmas
pub mod RaisingLemmas
pub mod TranslatingLemmas
