pub mod RowRuns
pub mod Rows
