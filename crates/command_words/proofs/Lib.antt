pub mod Denoting
pub mod FirstWord
pub mod Naming
pub mod OneCommand
pub mod Ranges
