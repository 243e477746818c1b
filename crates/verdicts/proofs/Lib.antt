pub mod Fractions
pub mod Mirrored
pub mod Numbers
pub mod Opening
pub mod Reached
pub mod Reading
pub mod Settled
pub mod Staying
