-- Laws of slopes, pieces and the floor at padded places, and how large they are.
pub mod ByPlace
pub mod SlopeSizes
pub mod PieceSizes
pub mod FloorSizes
pub mod FloorPadding
