pub mod Ranking
pub mod Faults
pub mod Layers
pub mod Carrying
pub mod inside
