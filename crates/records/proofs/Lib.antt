-- Laws behind the proofs. `Back` reads each record back from what its readers get.
pub mod Bytes
pub mod Back
pub mod Figures
