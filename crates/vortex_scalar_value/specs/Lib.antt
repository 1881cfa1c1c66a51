pub mod Errors
pub mod Numbers
pub mod Parts
pub mod View
