pub mod Bounds
pub mod Join
pub mod Kinds
pub mod StatValue
pub mod Sums
pub mod Typed
