pub mod Limits
pub mod Faults
pub mod Lines
pub mod Choices
pub mod Text
pub mod Answers
pub mod Order
