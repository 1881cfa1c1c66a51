pub mod CompactLemmas
mod MadeColumns
mod ShownLemmas
mod ConstantLemmas
mod FitsLemmas
pub mod HintLemmas
mod KeepLemmas
mod RowLemmas
pub mod ConvertedRows
pub mod InOrder
pub mod RangeLemmas
