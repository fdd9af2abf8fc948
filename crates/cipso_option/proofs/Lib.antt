pub mod Places
pub mod Options
pub mod Law
