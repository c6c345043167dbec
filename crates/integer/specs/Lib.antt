-- The definitions that promises cite.
pub mod Order
pub mod Quotient
pub mod Root
pub mod Limited
pub mod Tests
pub mod Sum
pub mod Operand
pub mod Encoding
pub mod Places
