pub mod Name
pub mod Names
pub mod NameIndex
pub mod Series
