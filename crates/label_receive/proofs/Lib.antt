pub mod Orders
pub mod Due
pub mod Lowest
pub mod NeverTold
pub mod Law
