pub mod ColumnFaults
pub mod Edited
pub mod Nested
pub mod Pairs
pub mod RecordFaults
pub mod Records
pub mod ZeroCodes
