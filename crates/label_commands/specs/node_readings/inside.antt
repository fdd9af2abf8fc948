pub mod Namings
pub mod Kept
pub mod Meant
