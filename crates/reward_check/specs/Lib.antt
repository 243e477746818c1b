pub mod Certificates
pub mod Parts
pub mod Faults
pub mod inside
