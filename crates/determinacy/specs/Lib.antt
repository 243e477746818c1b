pub mod Exact
pub mod Thirds
