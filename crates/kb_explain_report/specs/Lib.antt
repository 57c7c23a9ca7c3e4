pub mod DisabledSaid
pub mod PaletteSaid
pub mod PressSaid
pub mod RemovedSaid
pub mod RulePlaces
pub mod RulesSaid
pub mod Said
pub mod UnboundSaid
