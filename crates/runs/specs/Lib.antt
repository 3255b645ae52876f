pub mod Calls
pub mod Feeding
pub mod Moments
pub mod Offers
pub mod Recorders
pub mod Runs
pub mod Shapes
