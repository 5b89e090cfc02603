pub mod Giving
pub mod Made
pub mod Passing
pub mod Taking
