pub mod Shown
pub mod Rule
pub mod Steps
pub mod Passes
