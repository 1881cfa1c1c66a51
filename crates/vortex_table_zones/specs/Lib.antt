pub mod Build
pub mod Types
pub mod Zone
