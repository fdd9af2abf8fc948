pub mod Law
pub mod Parts
