pub mod Window
pub mod Busy
pub mod Arrived
pub mod Inside
pub mod Numbers
pub mod Ticks
pub mod Played
pub mod NextLaw
