pub mod Tests
pub mod Missing
pub mod Layers
pub mod SurePlans
pub mod Entries
pub mod Bounds
