pub mod Checked
pub mod Leaves
pub mod Made
pub mod OptionLemmas
