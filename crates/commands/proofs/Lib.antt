-- Laws about commands.
pub mod Tests
pub mod Extent
