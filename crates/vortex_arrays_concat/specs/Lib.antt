pub mod Columns
pub mod EndToEnd
pub mod FixedLists
pub mod Lists
pub mod PlainParts
pub mod PlainTypes
pub mod Room
pub mod Strings
