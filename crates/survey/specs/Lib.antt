pub mod Fed
pub mod Ranges
pub mod Statements
pub mod Summaries
pub mod Surveys
pub mod Told
