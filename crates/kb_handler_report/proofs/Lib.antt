pub mod FilesLemmas
pub mod ReportLemmas
pub mod StoppingLemmas
pub mod WalkLemmas
