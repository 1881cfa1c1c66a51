pub mod Coverage
pub mod Laws
pub mod Masks
pub mod Resolve
pub mod Sets
pub mod Steps
pub mod Tree
pub mod View
