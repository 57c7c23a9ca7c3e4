pub mod HeadlineLemmas
pub mod ReportLemmas
pub mod RunLemmas
