pub mod Columns
pub mod Headed
pub mod Integers
pub mod Laws
pub mod Literals
pub mod Runs
pub mod Valid
pub mod Wanted
