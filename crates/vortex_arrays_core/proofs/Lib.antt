pub mod Gathered
pub mod Constructors
pub mod Picked
pub mod RawRowsLemmas
pub mod Reading
pub mod Sizes
