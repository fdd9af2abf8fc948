pub mod Order
pub mod Ranking
pub mod Fewer
pub mod Ordered
