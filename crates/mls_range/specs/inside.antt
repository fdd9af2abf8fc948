pub mod Number
pub mod Rest
pub mod Stops
pub mod Told
