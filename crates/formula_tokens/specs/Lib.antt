pub mod Fault
pub mod Laws
pub mod Limits
pub mod Reading
pub mod Cursor
pub mod TokenRules
pub mod Tokens
