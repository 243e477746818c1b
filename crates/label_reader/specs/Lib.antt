pub mod Named
pub mod Refused
pub mod inside
