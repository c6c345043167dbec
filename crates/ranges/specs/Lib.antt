-- The definitions that promises cite.
pub mod Near
pub mod Range
pub mod Ranges
