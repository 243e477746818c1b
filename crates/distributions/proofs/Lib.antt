pub mod Gathering
pub mod Multiples
pub mod Chosen
