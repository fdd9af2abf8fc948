pub mod Kept
pub mod Listed
pub mod Place
pub mod Whole
