pub mod Sorted
pub mod Walk
