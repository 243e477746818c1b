pub mod Agreeing
pub mod Bracketing
pub mod ClosedChoices
pub mod Guessed
pub mod Rests
pub mod Uppers
pub mod Ending
pub mod Opening
