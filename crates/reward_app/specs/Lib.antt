pub mod Commands
pub mod OfWords
pub mod Reports
pub mod Run
pub mod inside
