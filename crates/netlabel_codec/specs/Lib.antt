pub mod Status
pub mod Put
pub mod Told
pub mod Read
pub mod Written
pub mod inside
