pub mod Truth
pub mod Sides
pub mod Posing
pub mod Seen
