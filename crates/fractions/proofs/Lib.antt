pub mod Euclid
pub mod Powers
pub mod Wide
pub mod Terms
pub mod Factors
pub mod Said
pub mod ShortSaid
mod Examples
