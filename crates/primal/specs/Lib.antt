-- The definitions that contracts cite.
pub mod Padded
pub mod Ranges
pub mod Terms
pub mod Held
pub mod Lent
