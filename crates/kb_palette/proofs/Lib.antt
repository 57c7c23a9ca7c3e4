pub mod HistoryLaws
pub mod HistoryLemmas
pub mod ListingLemmas
pub mod RowsLemmas
pub mod SortedLemmas
pub mod WordsLemmas
