-- Laws behind the proofs.
pub mod Inverse
pub mod LimitedQuotient
pub mod RowSizes
pub mod ByRow
pub mod RowTable
pub mod NumberSums
