pub mod Lines
pub mod Memory
pub mod Replies
pub mod Responses
pub mod Streams
pub mod Tap
pub mod Blocks
