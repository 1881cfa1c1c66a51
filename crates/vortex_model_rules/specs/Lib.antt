pub mod Faults
pub mod Laws
pub mod NullComparison
pub mod PushNot
pub mod Rules
pub mod Scanned
