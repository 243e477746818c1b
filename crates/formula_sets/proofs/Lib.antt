pub mod Finding
pub mod Asking
pub mod AskingNext
pub mod Marked
pub mod Inside
