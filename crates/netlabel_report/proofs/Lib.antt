mod Depots
mod Cutting
mod Telling
mod Ending
mod Steps
mod Law
