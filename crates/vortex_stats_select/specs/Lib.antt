pub mod Asked
pub mod Coded
pub mod Headed
pub mod Leaves
pub mod Operands
pub mod Wants
