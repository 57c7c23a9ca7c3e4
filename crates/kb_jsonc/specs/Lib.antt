pub mod FileFault
pub mod Parts
pub mod Member
pub mod Mismatch
pub mod Bytes
pub mod Fault
pub mod Pieces
pub mod PieceLaws
pub mod Reader
pub mod Scan
pub mod Text
-- definitions that the clauses of `read` use
pub use Rattle.serde_json.specs.Data
pub use Rattle.serde_json.specs.Read
pub use Rattle.serde_json.specs.View
