-- These modules define the games that are counted by hand, their players and their plays.
pub mod Games
pub mod Players
pub mod Counted
