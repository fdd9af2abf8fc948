pub mod Numbers
pub mod Parts
pub mod Words
pub mod Blanks
pub mod OneForm
pub mod Law
pub mod Written
pub mod Packets
pub mod Stops
mod Fronts
