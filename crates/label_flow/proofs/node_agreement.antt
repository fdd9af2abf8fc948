pub mod Numbers
pub mod Least
pub mod Floors
pub mod Firsts
pub mod Same
pub mod Kept
pub mod Law
