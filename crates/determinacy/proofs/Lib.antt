pub mod Sums
pub mod Descent
pub mod Arena
pub mod Decided
pub mod Layers
pub mod Splits
pub mod Chains
pub mod Values
pub mod Plans
pub mod Holding
pub mod Bracketing
pub mod Deciding
pub mod Zeros
mod Thirds
