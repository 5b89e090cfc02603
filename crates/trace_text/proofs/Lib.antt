mod Digits
mod Fronts
mod NameTexts
pub mod Recording
pub mod Sending
pub mod Words
