pub mod Compiled
pub mod Layout
pub mod Place
pub mod Reading
pub mod Standing
pub mod Stored
pub mod Ticking
