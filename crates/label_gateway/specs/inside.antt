pub mod Protocol
pub mod Crossing
pub mod Going
