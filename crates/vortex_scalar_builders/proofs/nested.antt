pub mod Made
pub mod Moves
pub mod Types
