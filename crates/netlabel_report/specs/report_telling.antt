pub mod Counts
pub mod Fields
pub mod Commands
pub mod Quoted
pub mod Json
pub mod Csv
pub mod Summary
pub mod Taking
