pub mod Forms
pub mod Loops
pub mod Others
pub mod Sizes
pub mod Tests
pub mod Views
