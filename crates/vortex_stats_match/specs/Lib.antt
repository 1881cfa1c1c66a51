pub mod Buffers
pub mod Bytes
pub mod Laws
pub mod Pieces
pub mod Fronts
pub mod Heads
pub mod HeadLaws
