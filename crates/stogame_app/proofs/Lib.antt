mod Saving
mod Solving
pub mod Answered
pub mod Closeness
pub mod Complete
pub mod Endings
pub mod Plans
pub mod Posed
