pub mod Place
pub mod Input
pub mod Run
pub mod Laws
pub mod Withheld
pub mod Ends
pub mod inside
