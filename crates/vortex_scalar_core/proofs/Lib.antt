pub mod Natives
pub mod Reinterpreted
