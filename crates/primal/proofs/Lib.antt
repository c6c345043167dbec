-- Laws of the padded problem, and how large its numbers are.
pub mod Places
pub mod LiftedQuotient
pub mod ProductSizes
pub mod ModelSizes
pub mod TermSizes
pub mod TermSums
pub mod TermTables
pub mod Padding
pub mod Held
pub mod HeldSteps
pub mod Lengths
pub mod Lent
pub mod Filled
