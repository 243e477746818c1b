pub mod Fronts
pub mod Lexed
pub mod Cutting
pub mod NoBlanks
pub mod Blanks
pub mod Reaching
pub mod Passing
pub mod Spans
