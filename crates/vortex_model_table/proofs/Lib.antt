pub mod Chains
pub mod ContentOrder
pub mod Equality
pub mod Examples
