pub mod LastingRuns
pub mod TakenStates
