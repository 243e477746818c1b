pub mod Rows
pub mod Ends
pub mod Alike
pub mod HeaderLaws
pub mod RowLaws
pub mod ActionLaws
pub mod StateLaws
pub mod TextLaws
pub mod Permutations
mod Refusals
