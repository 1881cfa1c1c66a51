pub mod Answers
pub mod Column
pub mod Known
pub mod Proved
pub mod Stats
pub mod Views
pub mod Zone
pub mod Zones
