pub mod Values
pub mod Entries
pub mod Written
pub mod Said
pub mod Certificate
pub mod inside
