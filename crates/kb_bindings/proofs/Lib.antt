pub mod BindingLemmas
pub mod LoadLemmas
