pub mod BuildLemmas
pub mod KeptZones
pub mod Named
pub mod TypeLemmas
pub mod ValidZones
pub mod ZoneLemmas
