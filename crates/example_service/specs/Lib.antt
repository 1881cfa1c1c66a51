pub mod Code
pub mod Log
pub mod Served
pub mod View
