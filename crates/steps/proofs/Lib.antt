-- Laws behind the proofs.
pub mod Blank
pub mod Combined
pub mod ModelStates
pub mod NumberSizes
