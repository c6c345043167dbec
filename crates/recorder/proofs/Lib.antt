-- Laws behind the proofs. `Readers` tells any two records apart by what their readers get.
pub mod Fits
pub mod Solved
pub mod Readers
pub mod Promise
pub mod Figures
