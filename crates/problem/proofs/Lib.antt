-- The theorem of demand 3 is in `Duality`; the files before it hold its parts. Behind it stand laws on rivals and on the floor, and figures.
pub mod Total
pub mod Lagrangian
pub mod Piece
pub mod Ceiling
pub mod Bound
pub mod Duality
pub mod Scaled
pub mod Whole
pub mod Units
pub mod Rounded
pub mod Between
pub mod Congruence
pub mod Figures
pub mod Upper
