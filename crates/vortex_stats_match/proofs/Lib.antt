pub mod ByteLemmas
pub mod PieceLemmas
pub mod FindLemmas
pub mod SignLemmas
pub mod FrontLemmas
pub mod HeadLemmas
