-- The laws, each file on the ones before it.
pub mod Signs
pub mod Values
pub mod Exact
pub mod Rounded
pub mod Whole
pub mod Finite
