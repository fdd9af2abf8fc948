pub mod FileName
pub mod Hop
pub mod HopText
pub mod Flow
pub mod Apart
pub mod inside
