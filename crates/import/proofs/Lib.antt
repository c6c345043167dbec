-- The laws, each file on the ones before it.
pub mod Bounds
pub mod Product
pub mod Meaning
pub mod Figures
