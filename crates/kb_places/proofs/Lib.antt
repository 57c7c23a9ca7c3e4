pub mod LineLemmas
mod ChildrenLemmas
mod DepthLemmas
mod LineTableLemmas
mod OpenLemmas
mod PlaceLemmas
mod PositionLemmas
