-- Laws behind the proofs.
pub mod Near
pub mod Ends
pub mod EndSizes
pub mod Duties
pub mod Figures
