pub mod Apart
pub mod UpSteps
pub mod Zero
pub mod Entries
pub mod Holding
pub mod Causes
