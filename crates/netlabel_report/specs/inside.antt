pub mod Telling
pub mod Tallies
