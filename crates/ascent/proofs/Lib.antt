-- Laws behind the proofs.
pub mod Nearing
pub mod Places
pub mod Ascended
