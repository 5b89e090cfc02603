pub mod Asked
pub mod Rows
pub mod Known
pub mod Counted
pub mod Limits
pub mod SoundBodies
pub mod StableSort
pub mod SoundConfig
