pub mod Elements
pub mod Pairs
pub mod Records
pub mod Storage
