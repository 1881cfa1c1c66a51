pub mod ClonedAnswers
pub mod Cuts
pub mod Distinct
mod Indexed
pub mod KeptParts
pub mod Paths
pub mod Places
pub mod Projections
pub mod Appends
pub mod BoundEntries
pub mod Copied
pub mod Explained
pub mod LeafPlaces
pub mod NamedParts
pub mod OwnType
pub mod PartIndexes
