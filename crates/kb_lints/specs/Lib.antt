pub mod Condition
pub mod Shadow
pub mod CutOff
pub mod Extended
pub mod Hidden
pub mod Taken
