pub mod Marking
pub mod Quiet
pub mod Racing
pub mod Reading
