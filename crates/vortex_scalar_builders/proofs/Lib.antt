pub mod Made
pub mod Beginnings
pub mod CountedUp
pub mod Covered
pub mod Raised
pub mod Unique
