pub mod Changes
pub mod Growing
pub mod Highest
pub mod Leading
pub mod Parts
pub mod Picking
pub mod Starting
