pub mod Law
pub mod Options
pub mod Sent
pub mod Stays
pub mod NoOption
pub mod Told
pub mod Outward
pub mod Writable
