pub mod Away
pub mod Paid
pub mod Solved
pub mod Values
pub mod inside
