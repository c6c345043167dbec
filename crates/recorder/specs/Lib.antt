-- The definitions that promises cite.
pub mod Recording
pub mod Calls
pub mod Demand
pub mod Held
