-- Laws behind the proofs.
pub mod Again
pub mod Small
pub mod Figures
pub mod Written
