-- The crate's own private functions use these definitions: no clause of a public function unfolds to them.
pub mod Kept
pub mod Ends
