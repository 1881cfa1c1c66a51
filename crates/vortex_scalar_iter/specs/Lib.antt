pub mod Choices
pub mod Entries
pub mod Iterators
pub mod Records
