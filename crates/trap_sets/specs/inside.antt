-- The crate's own loops and private functions use these definitions: no clause of a public function unfolds to them.
pub mod Parts
pub mod Settled
pub mod Breaking
pub mod OfReplyMdp
pub mod OfInternal
pub mod Reaching
pub mod Naming
pub mod Each
pub mod Roots
