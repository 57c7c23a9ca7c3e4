pub mod DraftLemmas
pub mod LayoutLemmas
pub mod OutwardLemmas
pub mod ScopesLemmas
pub mod SeatLemmas
pub mod SightLemmas
