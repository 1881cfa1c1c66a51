pub mod Converting
pub mod Equality
pub mod Hashing
pub mod Laws
pub mod Native
pub mod Rows
pub mod Tagged
