pub mod Hashing
pub mod Iterators
pub mod Laws
pub mod Records
pub mod Widths
