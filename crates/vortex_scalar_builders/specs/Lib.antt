pub mod nested
pub mod Laws
