pub mod BoundsLemmas
pub mod CodeLemmas
pub mod ListLemmas
pub mod MarkLemmas
pub mod PairLemmas
pub mod ReachLemmas
pub mod SliceLemmas
