pub mod Faults
pub mod Options
pub mod Shapes
pub mod Strings
pub mod ViewFaults
