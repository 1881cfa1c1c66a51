pub mod Alike
pub mod Arrays
pub mod Asked
pub mod Counted
pub mod Running
pub mod Sums
pub mod Zones
