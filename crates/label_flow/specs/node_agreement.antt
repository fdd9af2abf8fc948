pub mod Meanings
pub mod Agreement
pub mod First
pub mod inside
