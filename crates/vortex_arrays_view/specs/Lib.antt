pub mod Built
pub mod Cuttings
pub mod Errors
pub mod Laws
pub mod Lengths
pub mod Made
pub mod Views
