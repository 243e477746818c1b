pub mod Dual
pub mod Spellable
pub mod Spelling
