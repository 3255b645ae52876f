pub mod RowStates
