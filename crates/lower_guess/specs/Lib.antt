pub mod LowerGuess
pub mod inside
