pub mod Bytes
pub mod Counted
pub mod Cut
pub mod Digits
mod Examples
pub mod Made
pub mod Ordered
pub mod Padding
pub mod Placed
