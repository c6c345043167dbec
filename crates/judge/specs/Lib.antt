-- The definitions that promises cite.
pub mod Judging
pub mod Demand
pub mod Reasons
