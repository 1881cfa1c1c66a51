pub mod Answers
pub mod Text
pub mod type_texts
