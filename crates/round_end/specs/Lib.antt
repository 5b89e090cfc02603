pub mod Round
pub mod Step
pub mod State
