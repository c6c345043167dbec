-- Demand 3 over the definitions.
pub mod Accepted
pub mod Units
pub mod Granted
pub mod Reasons
