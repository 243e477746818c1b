pub mod Plans
pub mod Reading
pub mod Bounds
pub mod Headings
pub mod Certificates
pub mod Values
pub mod ReadBack
