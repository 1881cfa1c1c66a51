pub mod Gathered
pub mod LeftOut
pub mod Refused
pub mod Selected
pub mod Shares
pub mod Tables
