pub mod DirtySet
pub mod Rounds
