pub mod Commands
pub mod Reports
pub mod Run
pub mod Status
pub mod inside
