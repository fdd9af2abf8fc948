pub mod Octets
pub mod Numbers
pub mod Fronts
pub mod Faults
pub mod Places
pub mod Layouts
pub mod Digits
pub mod Elements
