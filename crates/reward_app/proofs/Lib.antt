pub mod Answered
pub mod Certified
pub mod Complete
pub mod Endings
pub mod Passing
pub mod Entries
pub mod Saved
pub mod AuditedAlike
