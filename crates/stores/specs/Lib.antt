pub mod Cells
pub mod Coding
pub mod Filled
pub mod Recorded
pub mod Stores
