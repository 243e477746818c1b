pub mod Soundness
pub mod Saying
pub mod SamePlans
pub mod OneFault
pub mod OneAnswer
pub mod Multiples
pub mod OldTables
