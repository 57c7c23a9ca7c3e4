pub mod SeenLemmas
pub mod CauseLemmas
pub mod DisabledLemmas
pub mod OverlapLemmas
pub mod PaletteLemmas
pub mod PressLemmas
pub mod RemovedLemmas
