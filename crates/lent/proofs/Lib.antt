-- Laws that the functions' proofs and the crates above cite.
pub mod Steps
pub mod LentMultipliers
pub mod Faults
