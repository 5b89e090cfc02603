pub mod Spelling
pub mod Sound
