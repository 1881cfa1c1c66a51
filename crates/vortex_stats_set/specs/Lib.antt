pub mod Combine
pub mod Known
pub mod Merge
pub mod Pairs
pub mod Said
pub mod Sets
pub mod Valid
