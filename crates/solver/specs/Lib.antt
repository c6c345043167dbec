-- The definitions that promises cite.
pub mod Solving
pub mod Demand
