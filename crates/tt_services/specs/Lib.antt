pub mod Agreement
pub mod Performed
