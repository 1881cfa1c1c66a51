pub mod Bounds
pub mod Laws
pub mod Order
pub mod Precision
pub mod ScalarOrder
pub mod Typed
pub mod ValueOrder
