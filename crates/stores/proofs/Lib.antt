pub mod CellValues
pub mod LawfulStates
pub mod PastedCells
pub mod WrittenState
pub mod RecordedCalls
pub mod RecordedStores
