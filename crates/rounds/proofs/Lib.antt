-- Laws behind the proofs.
pub mod Filled
pub mod Sums
pub mod Weighing
pub mod Entered
pub mod Figures
