pub mod Pieces
pub mod Turns
pub mod Kept
pub mod Lists
