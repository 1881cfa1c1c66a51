pub mod Equality
pub mod Native
pub mod Reinterpreted
pub mod Scalar
