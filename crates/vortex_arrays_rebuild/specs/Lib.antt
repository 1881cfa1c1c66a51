pub mod Density
pub mod Indices
pub mod Rebuilds
pub mod Runs
pub mod Trims
