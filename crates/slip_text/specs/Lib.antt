-- The definitions that promises cite.
pub mod Decimal
pub mod Slip
pub mod Written
