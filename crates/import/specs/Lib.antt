-- The definitions that promises cite.
pub mod Entries
