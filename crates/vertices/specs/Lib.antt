-- The vertices of a mesh.
pub mod Vertices
pub mod Areas
