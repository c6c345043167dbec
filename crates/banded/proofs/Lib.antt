pub mod Stores
pub mod Taken
pub mod Reduction
pub mod Solving
pub mod WeightLaws
pub mod Coefficients
