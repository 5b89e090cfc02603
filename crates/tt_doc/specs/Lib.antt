pub mod Span
pub mod Lines
pub mod LineStep
pub mod Words
pub mod Numbers
