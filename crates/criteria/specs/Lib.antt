pub mod Criteria
pub mod Formulas
pub mod Refusals
pub mod States
pub mod Told
pub mod Ways
