pub mod Asking
pub mod Ends
pub mod Forms
pub mod Leaving
pub mod ModelTexts
pub mod Posing
pub mod RewardFiles
pub mod RewardTexts
