pub mod Choices
pub mod Elements
pub mod Entries
pub mod Records
