pub mod Grammar
pub mod Limits
pub mod Words
