pub mod Caused
pub mod Printable
pub mod Refusals
pub mod Status
