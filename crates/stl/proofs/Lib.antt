-- Lists one behind the other, the tests of a file, the areas filled, and what that is worth.
mod OverNumbers
pub mod Tests
pub mod Ids
mod Corners
mod Given
pub mod Mesh
pub mod Pieces
pub mod Unseen
pub mod Front
pub mod One
pub mod Numbers
