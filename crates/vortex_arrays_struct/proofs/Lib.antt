mod Rows
pub mod Columns
pub mod Constants
pub mod EditLemmas
pub mod Fitting
pub mod PairLemmas
pub mod Parts
pub mod Places
pub mod PushedLemmas
pub mod Pushes
pub mod Steps
