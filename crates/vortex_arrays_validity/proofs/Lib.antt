pub mod Overwritten
pub mod Patches
pub mod PlaceLemmas
pub mod Rows
