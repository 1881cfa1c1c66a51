pub mod CellLemmas
pub mod ViewLemmas
pub mod ByteLemmas
pub mod ColumnLemmas
pub mod NestedLemmas
pub mod InsideLemmas
