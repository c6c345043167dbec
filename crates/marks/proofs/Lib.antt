-- Laws about the required places.
pub mod Places
