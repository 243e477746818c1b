pub mod Adding
pub mod Rising
pub mod Repeating
pub mod Games
pub mod Reaching
