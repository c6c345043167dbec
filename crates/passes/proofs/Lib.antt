-- Laws behind the proofs.
pub mod SumSizes
pub mod ForcedSums
pub mod StepSums
pub mod FollowedSteps
