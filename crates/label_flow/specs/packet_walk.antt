pub mod Walk
pub mod Stepping
pub mod NoOption
pub mod inside
