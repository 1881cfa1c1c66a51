pub mod Places
pub mod Taken
pub mod CutRows
pub mod Lists
