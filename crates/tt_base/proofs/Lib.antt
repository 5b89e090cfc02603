pub mod Padding
pub mod NameLength
mod NamesLemmas
pub mod FindLemmas
pub mod IndexLemmas
