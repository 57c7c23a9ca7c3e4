pub mod PartsLemmas
pub mod PassLemmas
pub mod PieceLawsLemmas
pub mod PiecesLemmas
pub mod ReaderLemmas
pub mod ScanLemmas
