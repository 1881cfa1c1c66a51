pub mod Digits
pub mod Grammar
pub mod Wholes
pub mod OneToken
pub mod Lines
pub mod Rows
pub mod MemberLemmas
pub mod ColumnLemmas
