pub mod Limits
pub mod Lower
pub mod Bracket
pub mod BracketOfRun
pub mod Choices
pub mod Stop
pub mod inside
