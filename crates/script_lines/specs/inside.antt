pub mod Extends
pub mod Shown
pub mod Written
