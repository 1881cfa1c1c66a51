pub mod Held
pub mod Smallest
