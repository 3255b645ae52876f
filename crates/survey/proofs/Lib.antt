pub mod FedRuns
pub mod WholeFile
pub mod PairedLines
pub mod Widening
pub mod StateSums
