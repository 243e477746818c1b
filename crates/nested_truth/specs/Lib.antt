pub mod Open
pub mod Nested
pub mod Seen
