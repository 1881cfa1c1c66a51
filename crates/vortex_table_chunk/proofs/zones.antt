pub mod Forms
pub mod JoinLemmas
pub mod StatValueLemmas
pub mod SumLemmas
pub mod TypeLemmas
