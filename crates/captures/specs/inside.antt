pub mod Stops
pub mod Given
