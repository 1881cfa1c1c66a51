pub mod FormNames
pub mod Kinds
pub mod Line
pub mod Parsed
pub mod Rows
pub mod View
pub mod Where
