-- The sums over all triangles of a mesh.
pub mod Walk
pub mod Counts
pub mod Counted
pub mod Turned
pub mod Worth
pub mod Domain
pub mod inner
