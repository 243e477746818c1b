pub mod Bounds
pub mod Plans
