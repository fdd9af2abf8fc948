pub mod Crossed
pub mod Going
pub mod NoOption
pub mod Told
pub mod Written
pub mod Versions
pub mod Law
