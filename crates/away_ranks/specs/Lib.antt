pub mod Choices
pub mod inside
