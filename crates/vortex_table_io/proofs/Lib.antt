pub mod CallLemmas
pub mod Fronts
pub mod LineLemmas
pub mod ReplyLemmas
pub mod Walks
pub mod Places
pub mod Cloned
