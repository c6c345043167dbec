-- The definitions that promises cite.
pub mod Records
pub mod Readers
pub mod Held
