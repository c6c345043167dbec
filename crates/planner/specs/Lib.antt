-- The definitions that promises cite.
pub mod Calls
pub mod Demand
pub mod Imports
pub mod Ranges
pub mod Records
pub mod Reports
pub mod Corrections
