pub mod Limits
pub mod Drawings
pub mod Parts
pub mod Rules
pub mod Asked
pub mod Ends
pub mod Worked
pub mod inside
