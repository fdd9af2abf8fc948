pub mod Words
pub mod Lines
pub mod Frames
pub mod Definition
pub mod Outcome
pub mod Says
pub mod Laws
pub mod inside
