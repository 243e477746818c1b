pub mod FileEnds
pub mod inside
