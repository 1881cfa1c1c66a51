pub mod Choices
pub mod Leaves
pub mod Numbers
pub mod Whichever
