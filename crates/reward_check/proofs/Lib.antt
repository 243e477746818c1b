pub mod Entries
pub mod Sound
pub mod Causes
pub mod Order
