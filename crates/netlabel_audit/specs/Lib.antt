pub mod Words
pub mod Lines
pub mod Inputs
pub mod Outcome
pub mod Says
pub mod OfRun
pub mod inside
