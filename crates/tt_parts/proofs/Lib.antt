pub mod EachAt
pub mod Fronts
