pub mod Saying
pub mod Alike
pub mod OneAnswer
