pub mod Laws
pub mod Slots
pub mod Standing
pub mod Subsystem
