pub mod Accepted
mod AllSkipped
pub mod Alone
pub mod Answers
pub mod Batches
pub mod Beginnings
mod Binding
pub mod BoundFunctions
pub mod Bounded
pub mod ByteOrder
mod Classes
pub mod Columns
pub mod Complete
pub mod CountUp
mod Counts
mod Covers
mod DefinitionExamples
pub mod Described
mod Edges
pub mod Encoded
mod Exact
mod Examples
pub mod GroupSkipping
pub mod Groups
pub mod Held
pub mod Honesty
pub mod Hopeless
mod HopelessChunks
pub mod JoinOrder
pub mod Joined
pub mod LeafOrder
pub mod Leasts
pub mod Liked
pub mod Likes
mod Meanings
pub mod Members
mod MoreExamples
mod NoColumns
pub mod Outcomes
pub mod Pruning
pub mod Raised
mod Regrouped
mod Retyping
mod Ruled
mod Runs
mod Shapes
pub mod Skipping
mod Steps
pub mod Texts
pub mod Tighter
mod Values
mod ZoneExamples
pub mod Zones
