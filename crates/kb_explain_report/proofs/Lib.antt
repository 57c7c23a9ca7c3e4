pub mod PressLemmas
pub mod RulePlacesLemmas
pub mod SaidLemmas
