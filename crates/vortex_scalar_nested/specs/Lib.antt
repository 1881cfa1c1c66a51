pub mod Entries
pub mod Held
pub mod Nested
pub mod Places
