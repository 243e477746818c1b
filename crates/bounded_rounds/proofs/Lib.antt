pub mod Stepping
pub mod Affine
pub mod Rounding
pub mod Opening
pub mod Bracketed
pub mod Parts
