pub mod Limits
pub mod Amounts
pub mod Lines
pub mod Texts
pub mod Rewards
pub mod Denotes
pub mod inside
