pub mod Octets
pub mod Front
pub mod Fault
pub mod Numbers
pub mod Place
