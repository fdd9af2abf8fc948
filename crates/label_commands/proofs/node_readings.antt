pub mod Pairs
pub mod Distinct
pub mod Increasing
pub mod Dominance
pub mod Meanings
pub mod Starts
pub mod Law
