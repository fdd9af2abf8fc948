pub mod Parts
pub mod Leaving
pub mod Beginning
pub mod Written
pub mod Law
pub mod Appends
