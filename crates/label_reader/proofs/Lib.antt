pub mod Bodies
pub mod Blanks
pub mod Marking
pub mod Owning
pub mod OwnerLines
pub mod Filled
pub mod FileAnswers
pub mod FileSizes
