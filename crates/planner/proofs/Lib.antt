-- What the functions' proofs cite.
pub mod Figures
pub mod Answered
pub mod Recorded
pub mod Reported
pub mod Ranged
