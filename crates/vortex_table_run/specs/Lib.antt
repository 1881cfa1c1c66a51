pub mod LineAnswers
pub mod CommandAnswers
pub mod Exact
pub mod State
pub mod Laying
pub mod Order
