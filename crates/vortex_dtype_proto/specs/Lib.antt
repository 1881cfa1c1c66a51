pub mod Laws
pub mod Messages
pub mod Sessions
pub mod Shapes
pub mod View
