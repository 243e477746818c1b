pub mod Guess
pub mod Parts
pub mod inside
