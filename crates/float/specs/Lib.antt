-- The definitions that promises cite.
pub mod Value
pub mod Nearest
