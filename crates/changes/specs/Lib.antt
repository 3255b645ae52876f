pub mod ChangeRuns
pub mod Coding
pub mod Encoding
pub mod Kept
