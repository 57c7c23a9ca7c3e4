pub mod NamesLemmas
pub mod HandlerRows
