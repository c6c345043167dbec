-- Laws about words.
pub mod Bits
