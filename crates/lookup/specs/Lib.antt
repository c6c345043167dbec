-- The definitions that contracts cite.
pub mod Table
pub mod Numbers
