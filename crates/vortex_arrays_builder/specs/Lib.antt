pub mod Fits
pub mod Items
pub mod Plain
pub mod Strings
pub mod TooLarge
pub mod Types
pub mod Integers
