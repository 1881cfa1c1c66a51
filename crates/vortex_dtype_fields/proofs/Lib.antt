pub mod Choices
pub mod Counted
pub mod Digits
pub mod Hashed
pub mod Fits
pub mod Lawful
pub mod Pieces
pub mod Projections
