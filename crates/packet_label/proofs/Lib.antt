pub mod Wires
pub mod Once
pub mod Decided
pub mod Whole
pub mod Total
pub mod Writing
pub mod Labels
pub mod Law
