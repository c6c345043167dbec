-- The definitions that promises cite.
pub mod Ranges
pub mod Marks
pub mod Format
pub mod Required
pub mod Room
