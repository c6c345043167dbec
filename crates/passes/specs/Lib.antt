-- The definitions that contracts cite.
pub mod Sums
pub mod Followed
