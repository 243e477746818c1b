pub mod Raised
pub mod Sights
pub mod Words
pub mod Kept
pub mod Told
pub mod Worlds
