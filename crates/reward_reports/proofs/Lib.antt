pub mod Open
pub mod Ordered
pub mod Reported
