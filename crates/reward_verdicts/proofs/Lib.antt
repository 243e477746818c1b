pub mod Reading
pub mod Right
pub mod Tests
