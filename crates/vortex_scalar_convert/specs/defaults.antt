pub mod Laws
pub mod Zero
