pub mod Marks
pub mod Refused
pub mod Entries
pub mod One
