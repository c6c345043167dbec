-- The definitions that promises cite.
pub mod Checks
