pub mod Report
pub mod Stop
pub mod Truth
pub mod Verdict
pub mod Open
pub mod Exact
