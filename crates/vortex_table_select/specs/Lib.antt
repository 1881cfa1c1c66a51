pub mod Selected
pub mod Lists
pub mod Cloned
