pub mod Calls
pub mod Laws
pub mod Compactions
pub mod Parts
