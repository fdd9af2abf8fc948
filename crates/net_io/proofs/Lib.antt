pub mod Frames
pub mod Law
pub mod Listed
pub mod Parts
pub mod Places
