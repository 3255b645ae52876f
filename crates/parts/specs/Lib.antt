pub mod Bounds
pub mod Formulas
pub mod Limits
pub mod Nesting
pub mod Order
