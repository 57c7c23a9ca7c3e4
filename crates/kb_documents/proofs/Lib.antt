mod ColumnLemmas
mod LineLemmas
mod PlaceLemmas
