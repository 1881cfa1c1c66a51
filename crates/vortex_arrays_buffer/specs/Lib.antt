pub mod Bits
pub mod Errors
pub mod PrimitiveBuffers
