-- The definitions that promises cite.
pub mod Running
pub mod Held
