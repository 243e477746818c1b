-- The crate's own loops and private functions use these definitions: no clause of a public function unfolds to them.
pub mod GrowingGames
pub mod OfGrowing
pub mod Reading
pub mod Noted
pub mod ActionUnderWay
pub mod Ordered
pub mod AnyOrder
