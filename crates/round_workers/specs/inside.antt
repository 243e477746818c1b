-- Only the crate's own loops and private functions use these definitions: no clause of a public function unfolds to
-- one.
pub mod Crews
