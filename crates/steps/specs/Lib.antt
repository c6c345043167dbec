-- The definitions that promises cite.
pub mod Steps
pub mod Held
