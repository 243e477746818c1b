pub mod Beginning
pub mod Choosing
pub mod Later
pub mod Sinking
pub mod Lingering
pub mod Joining
pub mod LettingGo
pub mod Found
