pub mod Again
mod Examples
pub mod Parts
pub mod Plugins
pub mod Readings
pub mod Rows
pub mod Shaped
pub mod Shapings
