pub mod Word
pub mod Sound
pub mod Configuration
pub mod Events
