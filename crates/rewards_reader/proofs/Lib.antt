pub mod AmountLaws
pub mod Amounts
pub mod Entries
pub mod LineLaws
pub mod Places
pub mod Right
pub mod TextLaws
