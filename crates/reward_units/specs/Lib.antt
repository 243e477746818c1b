pub mod Units
pub mod Exact
pub mod Rounded
pub mod inside
