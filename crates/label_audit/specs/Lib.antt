pub mod Good
pub mod Audited
pub mod Reads
pub mod inside
