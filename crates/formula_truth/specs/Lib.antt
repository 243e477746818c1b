pub mod Truth
pub mod Rest
pub mod ThreeValued
pub mod InnerRuns
pub mod Sound
pub mod RoundBounds
