pub mod Moves
pub mod Ends
pub mod Exits
pub mod Lowered
pub mod inside
