pub mod Faults
pub mod FixedLists
pub mod ListViews
pub mod Parts
pub mod Shapes
