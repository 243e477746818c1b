pub mod ApartRules
pub mod Denoting
pub mod Naming
pub mod OneCommand
pub mod OtherCommand
pub mod Unnamed
