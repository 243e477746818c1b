pub mod Sums
pub mod Quotients
pub mod Given
pub mod Raised
pub mod Bounds
