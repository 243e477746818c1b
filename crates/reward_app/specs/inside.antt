-- The crate's own loops and private functions use these definitions: no clause of a public function unfolds to them.
pub mod Answers
pub mod Certified
