pub mod Formula
pub mod Grammar
pub mod Rules
pub mod Spellable
pub mod Spelling
pub mod inside
