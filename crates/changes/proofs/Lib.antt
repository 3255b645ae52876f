pub mod NotedWaypoints
pub mod OneStateMore
pub mod PackedChanges
pub mod Places
pub mod ToldStates
pub mod LastValues
pub mod WrittenChanges
pub mod KeptState
