-- Surfaces (01): keys of normals, and the area of each; and keys negated (02).
pub mod Surfaces
pub mod Keys
pub mod Opposite
pub mod inner
