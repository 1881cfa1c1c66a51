pub mod Prepared
pub mod Rules
pub mod Faults
pub mod Described
