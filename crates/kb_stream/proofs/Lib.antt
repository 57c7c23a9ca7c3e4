pub mod FoldLemmas
pub mod FoldWritingLemmas
pub mod LinesLemmas
pub mod Undoing
pub mod WritingLemmas
