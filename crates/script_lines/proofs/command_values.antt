pub mod Numbers
pub mod Splits
pub mod Lists
pub mod Back
pub mod Colons
pub mod Law
