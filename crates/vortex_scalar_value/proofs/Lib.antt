pub mod Items
pub mod Nulls
pub mod Sizes
pub mod Views
pub mod Widths
