-- Laws behind the proofs.
pub mod Appending
pub mod Bounding
pub mod Deciding
pub mod Digits
pub mod Figures
pub mod FirstLine
