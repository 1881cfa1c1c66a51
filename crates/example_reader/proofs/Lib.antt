pub mod Paths
pub mod ReadLemmas
pub mod TableZones
pub mod Told
pub mod WriteLemmas
pub mod ZoneLemmas
