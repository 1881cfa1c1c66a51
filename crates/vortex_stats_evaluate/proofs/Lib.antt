mod Adding
pub mod ByCalls
mod Found
mod Refused
pub mod RowLemmas
mod RowTruths
mod Saying
mod Telling
pub mod Told
mod Zones
