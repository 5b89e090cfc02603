pub mod Bound
pub mod Numbers
pub mod Ticking
