pub mod CanonicalLemmas
pub mod ColumnLemmas
mod Examples
pub mod PicksLemmas
pub mod PushLemmas
pub mod RebuiltLemmas
pub mod ReferencedLemmas
pub mod RowsLemmas
pub mod SomeLemmas
pub mod TrimmedLemmas
pub mod ValidRows
