pub mod Faults
pub mod Nulls
pub mod Typed
pub mod Values
