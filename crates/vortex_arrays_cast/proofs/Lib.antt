pub mod CastLemmas
pub mod DictionaryLemmas
pub mod EvenLemmas
pub mod ListLemmas
pub mod LowBitsLemmas
pub mod NameLemmas
pub mod NumberLemmas
pub mod RangeLemmas
