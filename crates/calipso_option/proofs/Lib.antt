pub mod Checks
pub mod Shapes
pub mod Places
pub mod Shifts
pub mod Words
pub mod Written
pub mod Law
