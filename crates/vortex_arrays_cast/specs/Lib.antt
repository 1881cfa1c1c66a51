pub mod Cast
pub mod Dictionaries
pub mod Ranges
