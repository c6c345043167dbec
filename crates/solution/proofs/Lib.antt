-- Laws behind the proofs.
pub mod Promise
pub mod TapeSizes
pub mod Proved
