pub mod Asking
pub mod FilesLoaded
pub mod HeldTexts
pub mod Leaving
pub mod Lengths
pub mod Loading
pub mod ModelTexts
