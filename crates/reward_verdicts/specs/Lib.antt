pub mod Report
pub mod Truth
pub mod Verdict
