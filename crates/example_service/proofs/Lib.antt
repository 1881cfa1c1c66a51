pub mod AnswerLemmas
pub mod LogLemmas
pub mod Replaying
pub mod Serving
