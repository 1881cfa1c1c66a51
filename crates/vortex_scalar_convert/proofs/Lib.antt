mod Compared
mod Converted
pub mod Reading
mod Returned
mod Steps
pub mod Told
