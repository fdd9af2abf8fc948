pub mod Parts
pub mod Texts
pub mod Masks
pub mod Law
