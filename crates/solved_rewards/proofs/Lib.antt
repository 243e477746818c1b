pub mod Pushed
pub mod Same
pub mod Weakest
