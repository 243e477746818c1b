pub mod Limits
pub mod Divisors
pub mod Fraction
pub mod Number
pub mod inside
