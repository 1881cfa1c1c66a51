pub mod Refusals
pub mod BoundValues
pub mod Checks
pub mod DescribedBounds
