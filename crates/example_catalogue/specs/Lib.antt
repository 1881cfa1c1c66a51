pub mod Bounds
pub mod Calls
pub mod Catalogued
pub mod Made
pub mod Partitions
pub mod Promises
