-- The definitions that promises cite.
pub mod Numbers
