pub mod Places
pub mod Validities
