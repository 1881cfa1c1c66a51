pub mod Made
pub mod Tests
pub mod Zeros
