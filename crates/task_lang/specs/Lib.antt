pub mod Allowed
pub mod Limits
pub mod Opening
pub mod Tick
pub mod TickLaws
pub mod Value
pub mod Worst
