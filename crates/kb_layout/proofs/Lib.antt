pub mod KeysLemmas
pub mod ShapeLemmas
