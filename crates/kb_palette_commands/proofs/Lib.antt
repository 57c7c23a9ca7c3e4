pub mod ListLemmas
pub mod FirstLemmas
pub mod PaletteLemmas
