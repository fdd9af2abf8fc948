pub mod Crossing
pub mod Forward
pub mod Answer
pub mod Laws
pub mod NoOption
pub mod inside
