pub mod Strategies
pub mod Plays
pub mod Next
pub mod Stopping
pub mod worked_games
