-- The definitions that promises cite.
pub mod Correction
pub mod Held
