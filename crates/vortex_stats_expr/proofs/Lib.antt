pub mod Classes
pub mod BitLemmas
mod Examples
pub mod Written
pub mod Collected
