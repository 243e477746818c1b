pub mod Steps
pub mod Lists
pub mod Accepting
pub mod Entries
pub mod One
