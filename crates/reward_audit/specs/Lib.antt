pub mod Audited
pub mod Accepted
pub mod Refused
