pub mod Audits
pub mod Nested
pub mod Reports
pub mod Sweeps
pub mod Valued
pub mod Solved
pub mod Sure
pub mod Made
