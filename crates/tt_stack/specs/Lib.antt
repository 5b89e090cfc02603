pub mod Kept
pub mod Stacked
pub mod Words
