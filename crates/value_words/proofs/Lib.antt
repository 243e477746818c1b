pub mod Parts
pub mod Events
pub mod Moves
pub mod Grown
