pub mod Faults
pub mod Filter
pub mod Flags
pub mod LayoutFalls
pub mod LayoutOf
pub mod Picking
pub mod RawRows
