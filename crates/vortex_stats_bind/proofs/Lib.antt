pub mod Alike
pub mod BoundValues
mod ClassTests
mod Columns
pub mod FormedLiterals
pub mod Items
pub mod Made
pub mod ReplacedValues
mod TextPatterns
pub mod Truths
