pub mod AtKinds
pub mod FormedLiterals
pub mod Meanings
pub mod Operands
pub mod Readings
pub mod RowLemmas
pub mod Trees
