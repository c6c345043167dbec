-- The definitions that promises cite.
pub mod Floats
pub mod Elimination
pub mod Correction
pub mod Weights
pub mod Step
pub mod Rows
