mod Examples
pub mod Lists
pub mod Natural
pub mod RawLists
pub mod Seen
pub mod Values
