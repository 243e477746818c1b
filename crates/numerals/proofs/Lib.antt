pub mod Spelled
pub mod Grammar
