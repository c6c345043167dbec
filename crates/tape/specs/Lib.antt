-- The definitions that promises cite; `Parts` has those that only contracts of private functions do.
pub mod Refusals
pub mod Tape
pub mod Answer
pub mod Reading
pub mod Parts
pub mod Legal
