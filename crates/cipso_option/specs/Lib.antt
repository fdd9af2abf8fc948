pub mod Cipso
pub mod Text
pub mod inside
