-- The laws, each file on the ones before it.
pub mod Number
pub mod Tested
pub mod Output
pub mod ReadBack
pub mod Figures
