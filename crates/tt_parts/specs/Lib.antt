pub mod Located
pub mod FrontLends
pub mod Structure
pub mod Names
pub mod Bodies
pub mod Entries
pub mod Parts
