pub mod Caused
pub mod Printable
pub mod Outputs
pub mod Printed
pub mod Refusals
pub mod Status
