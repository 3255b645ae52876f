pub mod Ends
pub mod Spots
