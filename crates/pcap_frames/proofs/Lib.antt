pub mod Windows
pub mod Readers
pub mod Chains
pub mod Law
pub mod Bounds
pub mod WriteBack
pub mod Longer
pub mod Worked
