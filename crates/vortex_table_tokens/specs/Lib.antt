pub mod Begins
pub mod Columns
pub mod Members
pub mod Values
