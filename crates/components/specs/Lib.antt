pub mod Division
pub mod OfLists
pub mod Order
