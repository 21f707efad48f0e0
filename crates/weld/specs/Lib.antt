-- Weld (01): which vertices are one.
pub mod Weld
pub mod inner
