mod Flushed
pub mod Beginnings
pub mod Endings
pub mod Law
pub mod Listing
pub mod Flows
pub mod Shown
pub mod Pieces
pub mod Counting
pub mod Denials
