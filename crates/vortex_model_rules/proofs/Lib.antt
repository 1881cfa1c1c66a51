mod Believed
mod Examples
pub mod FaultsOfAnswers
mod NoFault
mod NoRules
pub mod NullComparison
pub mod PushedIn
pub mod PushNot
mod NullSides
pub mod ReadsNone
mod SameValue
mod ScanExamples
pub mod Scans
mod TwoRules
pub mod Usable
mod WithRules
