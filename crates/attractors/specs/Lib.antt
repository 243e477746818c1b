pub mod Attractor
pub mod Search
