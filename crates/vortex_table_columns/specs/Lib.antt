pub mod Cells
pub mod Views
pub mod Numbers
pub mod Columns
pub mod Nested
