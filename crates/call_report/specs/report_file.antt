pub mod Meeting
pub mod Versions
pub mod File
pub mod inside
