pub mod Limits
pub mod Steps
pub mod Exact
pub mod inside
