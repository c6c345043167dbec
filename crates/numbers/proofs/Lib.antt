-- What the functions' proofs, and the crates above, cite.
pub mod Codes
