pub mod Tables
pub mod Asked
pub mod Parts
pub mod Ways
pub mod Exactly
pub mod Decided
pub mod Opened
pub mod Answered
