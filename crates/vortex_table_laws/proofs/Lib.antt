pub mod Answered
pub mod Compacted
pub mod PartByPart
pub mod PartsScanned
