-- `Facts` has what every accepted tape has, for the crates above; the files before it hold what it and the functions' proofs cite.
pub mod Steps
pub mod Missing
pub mod Facts
pub mod Told
pub mod Enough
pub mod Offsets
pub mod Deciding
